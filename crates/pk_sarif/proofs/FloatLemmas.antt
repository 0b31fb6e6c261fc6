-- A log has no number but integers.
use Rattle.std.proofs.Common.{◌≡◌, ℕ, List, [], ◌∷◌, ◌++◌, map, refl, Bool, true, false, ◌||◌, Option, Some, None}
use Rattle.std.specs.Prelude.{ℤ}
use Rattle.std.proofs.lemmas.Bool.{true≢false}
use Rattle.std.specs.List.{flat_map}
use Rattle.pk_ctypes.specs.declared.places.Pos.{Pos}
use Rattle.pk_show.specs.declared.rows.Verdict.{Verdict}
use Rattle.pk_show.specs.declared.rows.Verdict.TheVariants.{Safe, Unknown, Unreachable}
use Rattle.pk_show.specs.Paths.{CallOf}
use Rattle.pk_findings.specs.Texts.{TextOf}
use Rattle.pk_findings.specs.Operations.{WayOf, OperationOf}
use Rattle.pk_findings.specs.Shown.{ShownOf}
use Rattle.pk_findings.specs.Refused.{RefusedOf}
use Rattle.serde_json.specs.Data.{Data}
use Rattle.serde_json.specs.View.{items_of}
use Rattle.serde_json.specs.Written.{has_float, items_have_float}
use Rattle.pk_sarif.specs.Results.{call_steps, steps, flow, flows_by, result_with}
use Rattle.pk_sarif.specs.Logs.{artifact, refused_at, notification, invocation}

abbrev pub have_float : List Data → Bool
have_float ds = items_have_float (items_of ds)

first_isnt : (x y : Bool) → (x || y) ≡ false → x ≡ false
first_isnt true y e = e
first_isnt false y e = refl

second_isnt : (x y : Bool) → (x || y) ≡ false → y ≡ false
second_isnt true y e = absurd (true≢false e)
second_isnt false y e = e

both : (a b : List Data) → have_float a ≡ false → have_float b ≡ false → have_float (a ++ b) ≡ false
both [] b e f = f
both (d ∷ a) b e f = rw (first_isnt (has_float d) (have_float a) e) (both a b (second_isnt (has_float d) (have_float a) e) f)

of_calls : (t : TextOf) (caller : List ℕ) (calls : List CallOf) → have_float (call_steps t caller calls) ≡ false
of_calls t caller [] = refl
of_calls t caller (c ∷ calls) = of_calls t c.name calls

of_steps : (t : TextOf) (o : OperationOf) (w : WayOf) (lo hi : ℤ) → have_float (steps t o w lo hi) ≡ false
of_steps t o w lo hi = both (call_steps t w.path.entry w.path.calls) _ (of_calls t w.path.entry w.path.calls) refl

of_flow : (ds : List Data) → have_float ds ≡ false → has_float (flow ds) ≡ false
of_flow ds e = rw e refl

of_way : (t : TextOf) (o : OperationOf) (w : WayOf) (v : Verdict) → have_float (flows_by t o w v) ≡ false
of_way t o w Safe = refl
of_way t o w (Unknown lo hi) = rw (of_flow (steps t o w lo hi) (of_steps t o w lo hi)) refl
of_way t o w Unreachable = refl

of_ways : (t : TextOf) (o : OperationOf) (ways : List WayOf) → have_float (flat_map (λ w. flows_by t o w w.verdict) ways) ≡ false
of_ways t o [] = refl
of_ways t o (w ∷ ways) = both (flows_by t o w w.verdict) _ (of_way t o w w.verdict) (of_ways t o ways)

pub of_result : (t : TextOf) (o : OperationOf) (lo hi : ℤ) → has_float (result_with t o lo hi) ≡ false
of_result t o lo hi = rw (of_ways t o o.ways) refl

pub of_artifacts : (shown : List ShownOf) → have_float (map artifact shown) ≡ false
of_artifacts [] = refl
of_artifacts (s ∷ shown) = of_artifacts shown

of_place : (t : TextOf) (at : Option Pos) → has_float (refused_at t at) ≡ false
of_place t None = refl
of_place t (Some at) = refl

of_refused : (refused : List RefusedOf) → have_float (map notification refused) ≡ false
of_refused [] = refl
of_refused (r ∷ refused) = rw (of_place r.text r.at) (of_refused refused)

pub of_invocation : (refused : List RefusedOf) → has_float (invocation refused) ≡ false
of_invocation refused = rw (of_refused refused) refl
