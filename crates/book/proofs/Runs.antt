-- A run and one more call.
use Rattle.std.proofs.Common.{◌≡◌, ℕ, ◌+◌, ◌<◌, ◌≤◌, List, [], ◌∷◌, ◌++◌, length, get_or, take, sym, refl, ap, ◌∙◌, subst}
use Rattle.std.proofs.lemmas.List.{map_more, take_all}
use Rattle.theory.specs.Systems.{Lts}
use Rattle.book.specs.declared.request.Request.{Request}
use Rattle.book.specs.Plain.{Plain, Call, Step, Run}
use Rattle.book.specs.Requests.{call_of, calls_of}

pub run_more : (M : Lts) (cs : List Call) (c : Call) (b now after : Plain) → Run M b cs now → Step M now c after → Run M b (cs ++ c ∷ []) after
run_more M [] c b now after e s = (after, subst (λ (x : Plain). Step M x c after) e s, refl)
run_more M (k ∷ cs) c b now after r s = (r.0, r.1, run_more M cs c r.0 now after r.2 s)

pub request_more : (M : Lts) (xs : List Request) (i : ℕ) (x : Request) (b now after : Plain) → i < length xs → x ≡ get_or xs i x
    → Run M b (calls_of (take i xs)) now → Step M now (call_of x) after → Run M b (calls_of (take (i + 1) xs)) after
request_more M xs i x b now after l is r s =
    subst (λ (cs : List Call). Run M b cs after) (sym (map_more call_of xs i x l ∙ ap (λ (y : Request). calls_of (take i xs) ++ call_of y ∷ []) (sym is))) (run_more M (calls_of (take i xs)) (call_of x) b now after r s)

pub requests_all : (M : Lts) (xs : List Request) (i : ℕ) (b after : Plain) → length xs ≤ i → Run M b (calls_of (take i xs)) after → Run M b (calls_of xs) after
requests_all M xs i b after l r = subst (λ (ys : List Request). Run M b (calls_of ys) after) (take_all i xs l) r
