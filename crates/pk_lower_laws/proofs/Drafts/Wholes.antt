-- All parts in order, from the first draft on.
use Rattle.std.proofs.Common.{◌≡◌, ℕ, ◌+◌, zero, suc, ◌<◌, ◌≤◌, ◌⊎◌, inl, inr, List, [], ◌∷◌, Option, Some, None, length, map, refl, ap, sym, subst, ◌∙◌, arith}
use Rattle.std.proofs.lemmas.Option.{none-some}
use Rattle.std.proofs.lemmas.List.{length-map}
use Rattle.std.specs.Prelude.{All, slice_get, unwrap_or}
use Rattle.std.specs.Option.{option_map, option_and_then}
use Rattle.pk_ctypes.specs.declared.types.IntType.{IntType}
use Rattle.pk_typed.specs.Trees.{BodyTree, FunctionTree}
use Rattle.pk_calls.specs.declared.listings.CallPath.{CallPath}
use Rattle.pk_calls.specs.Calls as calls
use Rattle.pk_calls.specs.Calls.{calls_of}
use Rattle.pk_graph.specs.Kinds.{Kinds, kind_at, scalar_kind}
use Rattle.pk_graph.specs.Graphs.{VariableOf}
use Rattle.pk_draft.specs.Drafts.{inner}
use Rattle.pk_lower_row.specs.Contexts.{parameters_of}
use Rattle.pk_lower.specs.Parts as part
use Rattle.pk_lower_laws.proofs.Drafts.Places.{Has, HasIf, HasAll, IsOwn, returned_by, ResultIs, Promised, region_at, IsKept, variable_in, same_scopes, grown_both}
use Rattle.pk_lower_laws.proofs.Drafts.Parts.{ParametersAt, parameter_in, parameter_path, object_is, AreWritten, IsWrittenIf, made_part}
use Rattle.pk_lower_laws.proofs.Drafts.Plans.{World, Draft, sizes, function_of, place, base, Lasting, Plan, PathIs, function_is, its_function, its_parameters, place_at, part_made_is, plan_next, EndsAre, PathMade, path_stays, path_made, Foreknown, OnePart, one_part}

-- the paths from k on, whose calls lead to paths from n on, to the last
abbrev pub Paths : World → (k n : ℕ) → List CallPath → Type 0
Paths W k n [] = n ≡ length W.paths
Paths W k n (p ∷ ps) = PathIs W k n p × Paths W (k + 1) (n + length (calls_of W.unit p.function)) ps

-- path j is one of these, which begin with number k
abbrev pub IsAmong : ℕ → List CallPath → ℕ → CallPath → Type 0
IsAmong k [] j p = ⊥
IsAmong k (q ∷ ps) j p = ((j ≡ k) × (q ≡ p)) ⊎ IsAmong (k + 1) ps j p

-- what becomes of the objects of each of these paths is what has become of them behind its part
abbrev pub HaveEnds : (W : World) (k n : ℕ) (ps : List CallPath) → Paths W k n ps → Draft W → Type 0
HaveEnds W k n [] h d = Unit {0}
HaveEnds W k n (p ∷ ps) h d =
    let r = region_at d.regions k in
    let e = made_part (place_at W k n p r) h.0.function h.0.body p.caller r d in EndsAre W k n p r h.0.function h.0.body e × HaveEnds W (k + 1) (n + length (calls_of W.unit p.function)) ps h.1 e

pub record Whole (W : World) (k n : ℕ) (ps : List CallPath) (d e : Draft W) : Type 0 where
  pub part : OnePart W n d e
  pub made : (j : ℕ) (p : CallPath) → IsAmong k ps j p → PathMade W j p e
  pub many : length e.made ≡ length W.kinds
  pub unkept : (j : ℕ) → length W.paths ≤ j → IsKept e.regions j → ⊥

pub same_calls : (W : World) (k n : ℕ) (p : CallPath) (h : PathIs W k n p) → calls_of W.unit p.function ≡ h.body.calls
unfolding calls_of calls.body_of
same_calls W k n p h =
    ap (λ (o : Option _). unwrap_or (option_map (λ (b : BodyTree). b.calls) (Rattle.std.specs.Option.option_and_then (λ (g : Rattle.pk_typed.specs.Trees.FunctionTree). g.body) o)) []) h.there ∙ ap (λ (o : Option BodyTree). unwrap_or (option_map (λ (b : BodyTree). b.calls) o) []) h.has

both : (W : World) (m n : ℕ) (d e g : Draft W) → m ≤ n → OnePart W m d e → OnePart W n e g → OnePart W m d g
both W m n d e g l a b = record {
  regions = λ j c. b.regions j (omega (c, l, arith)) ∙ a.regions j c;
  low = λ y c. b.low y c ∙ a.low y c;
  scopes = grown_both d.scopes e.scopes g.scopes a.scopes b.scopes;
  stays = λ y k h. let o = a.stays y k h in b.stays y k (ap (λ (v : VariableOf). v.path) o ∙ h) ∙ o;
  foreknown = λ f. a.foreknown (b.foreknown f);
  typed = λ f t. b.typed f (a.typed (b.foreknown f) t);
}

-- the plan behind a part, by the calls of the path's function
pub next_plan : (W : World) → Lasting W → (k n : ℕ) (p : CallPath) (h : PathIs W k n p) (d : Draft W) → Plan W k n d
    → Plan W (k + 1) (n + length (calls_of W.unit p.function)) (made_part (place_at W k n p (region_at d.regions k)) h.function h.body p.caller (region_at d.regions k) d)
next_plan W l k n p h d plan =
    subst (λ (q : ℕ). Plan W (k + 1) (n + q) (made_part (place_at W k n p (region_at d.regions k)) h.function h.body p.caller (region_at d.regions k) d)) (sym (ap length (same_calls W k n p h))) (plan_next W l k n p h d plan)

pub wholes : (W : World) → Lasting W → (k n : ℕ) (ps : List CallPath) (h : Paths W k n ps) (d : Draft W) → Plan W k n d → HaveEnds W k n ps h d → Whole W k n ps d (part.parts_from W.unit (sizes W) k n ps d)
unfolding part.parts_from
wholes W l k n [] h d plan o = record {
  part = record { regions = λ j c. refl; low = λ y c. refl; stays = λ y k h. refl; scopes = same_scopes _ _ refl; foreknown = λ f. f; typed = λ f t. t };
  made = λ j p i. absurd i;
  many = plan.many;
  unkept = λ j c q. plan.unkept j (omega (h, c, arith)) q;
}
wholes W l k n (p ∷ ps) h d plan o =
    let one = h.0 in
    let r = region_at d.regions k in
    let e = made_part (place_at W k n p r) one.function one.body p.caller r d in
    let m = n + length (calls_of W.unit p.function) in
    let rest = wholes W l (k + 1) m ps h.1 e (next_plan W l k n p one d plan) o.1 in
    let g = part.parts_from W.unit (sizes W) (k + 1) m ps e in
    let here = one_part W l k n p one d plan o.0 in
    let whole : Whole W k n (p ∷ ps) d g = record {
      part = both W n m d e g (omega arith) here rest.part;
      made = λ j q i. elim i [
        | inl at ↦ subst (λ (x : CallPath). PathMade W j x g) at.1 (subst (λ (x : ℕ). PathMade W x p g) (sym at.0)
            (path_stays W k p e g rest.part.stays (rest.part.regions k (omega (one.below, arith))) (path_made W l k n p one d plan o.0)))
        | inr after ↦ rest.made j q after
      ];
      many = rest.many;
      unkept = rest.unkept;
    } in
    subst (λ (x : Draft W). Whole W k n (p ∷ ps) d (part.parts_from W.unit (sizes W) (k + 1) m ps x)) (sym (part_made_is W k n p one p.caller r d)) whole

-- ---- the kinds in the end

abbrev pub kinds_of : List VariableOf → Kinds
kinds_of ms = map (λ (x : VariableOf). x.kind) ms

pub kind_is : (ms : List VariableOf) (y : ℕ) → kind_at (kinds_of ms) y ≡ (variable_in ms y).kind
kind_is [] y = refl
kind_is (m ∷ ms) zero = refl
kind_is (m ∷ ms) (suc y) = kind_is ms y

inside : (ms : List VariableOf) (y k : ℕ) → (variable_in ms y).path ≡ Some k → y < length (kinds_of ms)
inside [] y k h = absurd (none-some k h)
inside (m ∷ ms) zero k h = omega arith
inside (m ∷ ms) (suc y) k h = let r = inside ms y k h in omega (r, arith)

-- what is known of the variables in the end
pub record AreKnown (W : World) (d : Draft W) : Type 0 where
  pub many : length W.kinds ≡ length d.made
  pub final : (y : ℕ) → W.final y ≡ variable_in d.made y

-- parameters from number i on, whose variables are those from v on
parameters_made : (W : World) → Lasting W → (d : Draft W) → AreKnown W d → (j n : ℕ) (p : CallPath) (h : PathIs W j n p) (i v : ℕ) (ts : List IntType) → ParametersAt (part.body_at W.unit p.function).locals i ts → i + length ts ≤ (W.ends j).objects
    → i + length ts ≤ length (parameters_of W.unit p.function) → ((q : ℕ) → q < length ts → (W.ends j).numbers (i + q) ≡ v + q) → AreWritten (part.body_at W.unit p.function).locals j p.caller d.made i v ts → HasAll W.table j i v ts
parameters_made W l d is j n p h i v [] k m o e a = tt
parameters_made W l d is j n p h i v (t ∷ ts) k m o e a =
    let at : (W.ends j).numbers i ≡ v = subst (λ (x : ℕ). (W.ends j).numbers x ≡ v) (omega arith) (e 0 (omega arith) ∙ omega arith) in
    let xs = (part.body_at W.unit p.function).locals in
    let x = parameter_in xs j p.caller i in
    let there = inside d.made v j (ap (λ (q : VariableOf). q.path) a.0 ∙ parameter_path xs j p.caller i) in
    let own : IsOwn (place W j n p.function 0 0) ((W.ends j).numbers i) x = subst (λ (z : ℕ). IsOwn (place W j n p.function 0 0) z x) (sym at) (record { there = omega (there, is.many, length-map d.made (λ (q : VariableOf). q.kind), arith); is = is.final v ∙ a.0 }) in
    let ob = object_is (place W j n p.function 0 0) p.caller i (λ q. l.outside j i p h.path q (omega (o, arith))) in (
      subst (λ (z : ℕ). Has W.table (W.table.names.object j i z) t None) at (l.objects j n 0 0 p i (scalar_kind t) x h.path (omega (m, arith)) k.0 own ob),
      parameters_made W l d is j n p h (i + 1) (v + 1) ts k.1 (omega (m, arith)) (omega (o, arith)) (λ q c. let z : i + 1 + q ≡ i + (1 + q) = omega arith in ap (W.ends j).numbers z ∙ (e (1 + q) (omega (c, arith)) ∙ omega arith)) a.1,
    )

result_made : (W : World) → Lasting W → (d : Draft W) → AreKnown W d → (j n v : ℕ) (p : CallPath) → slice_get W.paths j ≡ Some p → (t : Option IntType) → (part.function_at W.unit p.function).returns ≡ t → ResultIs t (λ y. (W.ends j).result ≡ y) v → IsWrittenIf j d.made v t
    → HasIf W.table (W.table.names.result j v) t
result_made W l d is j n v p h None r e a = tt
result_made W l d is j n v p h (Some t) r e a =
    let there = inside d.made v j (ap (λ (q : VariableOf). q.path) a) in
    let own : IsOwn (place W j n p.function 0 0) (W.ends j).result (inner None t None j) = subst (λ (x : ℕ). IsOwn (place W j n p.function 0 0) x (inner None t None j)) (sym e) (record { there = omega (there, is.many, length-map d.made (λ (q : VariableOf). q.kind), arith); is = is.final v ∙ a }) in
    subst (λ (x : ℕ). Has W.table (W.table.names.result j x) t None) e (l.results j n 0 0 p t h r own)

promised : (W : World) → Lasting W → (d : Draft W) → AreKnown W d → (j n : ℕ) (p : CallPath) → PathIs W j n p → PathMade W j p d → Promised (base W) j p.function (region_at d.regions j).variables
promised W l d is j n p h m =
    let v = (region_at d.regions j).variables in
    let ts = parameters_of W.unit p.function in
    record {
      parameters = parameters_made W l d is j n p h 0 v ts (its_parameters W j n p h) (let z = m.declared in omega (z, arith)) (omega arith) (λ q c. let zero_more : 0 + q ≡ q = omega arith in ap (W.ends j).numbers zero_more ∙ m.numbers q c) m.parameters;
      result = result_made W l d is j n (v + length ts) p h.path (returned_by W.unit p.function) (ap (λ (g : FunctionTree). g.returns) (its_function W.unit p.function h.function h.there) ∙ sym (ap (option_and_then (λ (g : FunctionTree). g.returns)) h.there)) m.result_number m.result;
    }

-- ---- each path of a list is among those from its beginning

pub among : (k : ℕ) (ps : List CallPath) (i : ℕ) (p : CallPath) → slice_get ps i ≡ Some p → IsAmong k ps (k + i) p
among k [] i p h = absurd (none-some p h)
among k (q ∷ ps) zero p h = inl (omega arith, ap (λ (o : Option CallPath). unwrap_or o p) h)
among k (q ∷ ps) (suc i) p h =
    let same : k + 1 + i ≡ k + suc i = omega arith in
    inr (subst (λ (j : ℕ). IsAmong (k + 1) ps j p) same (among (k + 1) ps i p h))

-- each of these paths has its place
pub path_of : (W : World) (k n : ℕ) (ps : List CallPath) → Paths W k n ps → (j : ℕ) (p : CallPath) → IsAmong k ps j p → (m : ℕ) × PathIs W j m p
path_of W k n [] h j p i = absurd i
path_of W k n (q ∷ ps) h j p (inl e) = (n, subst (λ (x : CallPath). PathIs W j n x) e.1 (subst (λ (x : ℕ). PathIs W x n q) (sym e.0) h.0))
path_of W k n (q ∷ ps) h j p (inr i) = path_of W (k + 1) (n + length (calls_of W.unit q.function)) ps h.1 j p i

-- The kinds of all variables that are made in the end are known, and what all paths make.
pub foreknown : (W : World) → Lasting W → (n : ℕ) → Paths W 0 n W.paths → (d e : Draft W) → AreKnown W e → All W.IsEdge e.edges → Whole W 0 n W.paths d e → Foreknown W e
foreknown W l n ps d e is edges h = record {
  made = λ y k q. is.final y;
  regions = λ j q. known j q (slice_get W.paths j) refl;
  edges = edges;
}
  where
    known : (j : ℕ) → IsKept e.regions j → (o : Option CallPath) → slice_get W.paths j ≡ o → Promised (base W) j (function_of W j) (region_at e.regions j).variables × ((region_at e.regions j).points < W.points)
    known j q None at = absurd (h.unkept j (past W.paths j at) q)
      where
        past : (xs : List CallPath) (i : ℕ) → slice_get xs i ≡ None → length xs ≤ i
        past [] i x = omega arith
        past (x ∷ xs) zero y = absurd (none-some x (sym y))
        past (x ∷ xs) (suc i) y = let r = past xs i y in omega (r, arith)
    known j q (Some p) at =
        let zero_more : 0 + j ≡ j = omega arith in
        let among_them = subst (λ (i : ℕ). IsAmong 0 W.paths i p) zero_more (among 0 W.paths j p at) in
        let m = h.made j p among_them in
        let it = path_of W 0 n W.paths ps j p among_them in
        (subst (λ (f : ℕ). Promised (base W) j f (region_at e.regions j).variables) (sym (function_is W j p at)) (promised W l e is j it.0 p it.1 m), m.points)
