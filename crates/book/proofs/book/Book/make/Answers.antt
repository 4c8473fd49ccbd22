use Rattle.book.proofs.book.Book.make.Goals as goal

pub returns-in-Prove : goal.returns-in-Prove
returns-in-Prove g c = rw c.in-Prove.is (rw c.as_slice.ensures.value at c.prove.ensures.step)
