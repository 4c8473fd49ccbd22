use Rattle.std.proofs.Common.{◌/◌, ◌%◌, get_or, set, ap, ◌∙◌, arith}
use lib.Bits.{bit_or}
use Rattle.std.proofs.lemmas.Nat.{one_shl, mod_below}
use Rattle.sheets.specs.Bitmaps.{bit_at}
use Rattle.sheets.proofs.Bitmaps.{bit_set}
use Rattle.sheets.proofs.pair_set.bits.set_bit.Goals as goal

pub returns : goal.returns
returns c = λ k.
    let ws = c.args.words.now in
    let i = c.args.i in
    ap (λ v. bit_at (set ws (i / 64) (bit_or (get_or ws (i / 64) 0) v)) k) (one_shl (i % 64) 64 (mod_below i 64 (omega arith))) ∙ bit_set ws i k c.requires
