-- The steps of a path: one more call, and the operation after the last.
use Rattle.std.proofs.Common.{◌≡◌, ◌<◌, ◌+◌, ℕ, List, [], ◌∷◌, ◌++◌, length, get_or, drop, map, sym, ap, ◌∙◌, suc, add-one, append_assoc, drop-cons}
use Rattle.pk_show.specs.Paths.{CallOf, PathOf}
use Rattle.pk_findings.specs.Texts.{TextOf}
use Rattle.pk_findings.specs.Operations.{WayOf}
use Rattle.serde_json.specs.Data.{Data}
use Rattle.serde_json.specs.View.{view}
use Rattle.serde_json.specs.declared.value.Value.{Value}
use Rattle.pk_sarif.specs.Objects.{step}
use Rattle.pk_sarif.specs.Results.{place, call_said, call_steps}
use Rattle.pk_sarif.proofs.ListLemmas.{one_more}

-- the step of a call, and those of the calls after it
abbrev step_and_rest : TextOf → (caller : List ℕ) → CallOf → List CallOf → List Data
step_and_rest t caller call rest = step (place t call.at) (call_said caller call.name) ∷ call_steps t call.name rest

-- the steps from the k-th call on begin with that call's
next_call : (t : TextOf) (caller : List ℕ) (calls : List CallOf) (k : ℕ) (call : CallOf) → k < length calls → call ≡ get_or calls k call → call_steps t caller (drop k calls) ≡ step_and_rest t caller call (drop (k + 1) calls)
next_call t caller calls k call h e =
    ap (call_steps t caller) (drop-cons calls k call h)
    ∙ ap (λ (c : CallOf). step_and_rest t caller c (drop (suc k) calls)) (sym e)
    ∙ ap (λ (n : ℕ). step_and_rest t caller call (drop n calls)) (sym (add-one k))

-- one more step stands before those of the rest
pub one_step : (t : TextOf) (caller : List ℕ) (calls : List CallOf) (k : ℕ) (call : CallOf) (list old : List Value) (new : Value) (whole : List Data) → k < length calls → call ≡ get_or calls k call → list ≡ old ++ new ∷ [] → view new ≡ step (place t call.at) (call_said caller call.name) → map view old ++ call_steps t caller (drop k calls) ≡ whole → map view list ++ call_steps t call.name (drop (k + 1) calls) ≡ whole
one_step t caller calls k call list old new whole h e added is so_far =
    let rest : List Data = call_steps t call.name (drop (k + 1) calls) in
    ap (λ (ds : List Data). ds ++ rest) (one_more list old new added)
    ∙ append_assoc (map view old) (view new ∷ []) rest
    ∙ ap (λ (d : Data). map view old ++ (d ∷ rest)) is
    ∙ ap (λ (ds : List Data). map view old ++ ds) (sym (next_call t caller calls k call h e))
    ∙ so_far

-- the operation's step stands after those of the calls
pub all_steps : (t : TextOf) (p : PathOf) (w : WayOf) (list old : List Value) (new : Value) (last : Data) → list ≡ old ++ new ∷ [] → map view old ≡ call_steps t p.entry p.calls → p ≡ w.path → view new ≡ last → map view list ≡ call_steps t w.path.entry w.path.calls ++ last ∷ []
all_steps t p w list old new last added calls is ends =
    one_more list old new added
    ∙ ap (λ (ds : List Data). ds ++ view new ∷ []) (calls ∙ ap (λ (q : PathOf). call_steps t q.entry q.calls) is)
    ∙ ap (λ (d : Data). call_steps t w.path.entry w.path.calls ++ d ∷ []) ends

-- a call as its view and as it stands in the path
pub is_view : (call seen : CallOf) (inside calls : List CallOf) (k : ℕ) → call ≡ seen → inside ≡ calls → seen ≡ get_or inside k seen → call ≡ get_or calls k call
is_view call seen inside calls k is same at =
    is ∙ at ∙ ap (λ (xs : List CallOf). get_or xs k seen) same ∙ ap (λ (c : CallOf). get_or calls k c) (sym is)
