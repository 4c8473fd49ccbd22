use Rattle.std.proofs.Common.{not, eqb, ◌∙◌, rules, tests}
use Rattle.std.proofs.lemmas.Iterator.{YieldsList-from_slice}
use Rattle.std.proofs.lemmas.Iterator.Search.{all_from_yields_List}
use Rattle.move_lists.proofs.Chains.{all_calm}
use Rattle.move_lists.proofs.patience.is_patient.Goals as goal

pub returns : goal.returns
returns c =
    let ms = c.args.ms.now in
    all_from_yields_List (λ x. not (eqb x.0.code 1)) _ _ _ c.all.ensures.ran (YieldsList-from_slice ms cc) (λ x b q k. search (rules, tests)) ∙ all_calm ms
