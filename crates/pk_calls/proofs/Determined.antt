-- A unit and a name have at most one answer.
use Rattle.std.proofs.Common.{inl, inr, ⊎_elim, ◌≡◌, ◌<◌, ◌≤◌, ◌⊎◌, ℕ, List, [], length, arith, refl, sym, ◌∙◌, ap, subst}
use Rattle.std.specs.Prelude.{Ok, Err}
use Rattle.std.proofs.lemmas.Bool.{cases_eq, cases_lt}
use Rattle.pk_ctypes.specs.declared.places.Pos.{Pos}
use Rattle.pk_ctypes.specs.declared.words.Quantity.{Quantity}
use Rattle.pk_ctypes.specs.declared.words.Quantity.TheVariants as quantity
use Rattle.pk_typed.specs.declared.units.CallSite.{CallSite}
use Rattle.pk_typed.specs.Trees.{UnitTree}
use Rattle.pk_calls.specs.declared.listings.CallPath.{CallPath}
use Rattle.pk_calls.specs.declared.failures.CallError.TheVariants as error
use Rattle.pk_calls.specs.Calls.{IsEntry}
use Rattle.pk_calls.specs.Walk.{Outcome, walked, recursion, undefined, IsRefusal, Walks, at_end, recursive, bodiless, left, entered, refused, WalksFrom}
use Rattle.pk_calls.specs.Paths.{IsListing, variables_of}
use Rattle.pk_calls.specs.Answers.{IsRefused, HasPaths, Passes}
use Rattle.pk_calls.specs.Laws.{AnswerIsDetermined}
use Rattle.pk_calls.proofs.ListingLemmas.{listing_determined}

-- parts of an outcome

abbrev seen_of : Outcome → List ℕ
seen_of (walked seen) = seen
seen_of (recursion names) = []
seen_of (undefined name at) = []

abbrev cycle_in : Outcome → List (List ℕ)
cycle_in (walked seen) = []
cycle_in (recursion names) = names
cycle_in (undefined name at) = []

abbrev name_in : Outcome → List ℕ
name_in (walked seen) = []
name_in (recursion names) = []
name_in (undefined name at) = name

abbrev place_in : Pos → Outcome → Pos
place_in other (walked seen) = other
place_in other (recursion names) = other
place_in other (undefined name at) = at

walked_refused : (seen : List ℕ) (o : Outcome) → walked seen ≡ o → IsRefusal o → ⊥
walked_refused seen o e r = subst IsRefusal (sym e) r

-- The walk comes to one outcome at most.
pub walks_determined : (u : UnitTree) {path seen : List ℕ} {calls : List CallSite} {o p : Outcome} → Walks u path seen calls o → Walks u path seen calls p → o ≡ p
walks_determined u at_end at_end = refl
walks_determined u (recursive b1 on1) (recursive b2 on2) = refl
walks_determined u (recursive b1 on1) (bodiless n2) = absurd (n2 b1)
walks_determined u (recursive b1 on1) (left b2 off2 known2 w2) = absurd (off2 on1)
walks_determined u (recursive b1 on1) (entered {path = path2} {after = after2} {rest = rest2} {o = o2} b2 off2 new2 w2 v2) = absurd (off2 on1)
walks_determined u (recursive b1 on1) (refused {o = o2} b2 off2 new2 w2 r2) = absurd (off2 on1)
walks_determined u (bodiless n1) (recursive b2 on2) = absurd (n1 b2)
walks_determined u (bodiless n1) (bodiless n2) = refl
walks_determined u (bodiless n1) (left b2 off2 known2 w2) = absurd (n1 b2)
walks_determined u (bodiless n1) (entered {path = path2} {after = after2} {rest = rest2} {o = o2} b2 off2 new2 w2 v2) = absurd (n1 b2)
walks_determined u (bodiless n1) (refused {o = o2} b2 off2 new2 w2 r2) = absurd (n1 b2)
walks_determined u (left b1 off1 known1 w1) (recursive b2 on2) = absurd (off1 on2)
walks_determined u (left b1 off1 known1 w1) (bodiless n2) = absurd (n2 b1)
walks_determined u (left b1 off1 known1 w1) (left b2 off2 known2 w2) = walks_determined u w1 w2
walks_determined u (left b1 off1 known1 w1) (entered {path = path2} {after = after2} {rest = rest2} {o = o2} b2 off2 new2 w2 v2) = absurd (new2 known1)
walks_determined u (left b1 off1 known1 w1) (refused {o = o2} b2 off2 new2 w2 r2) = absurd (new2 known1)
walks_determined u (entered {path = path1} {after = after1} {rest = rest1} {o = o1} b1 off1 new1 w1 v1) (recursive b2 on2) = absurd (off1 on2)
walks_determined u (entered {path = path1} {after = after1} {rest = rest1} {o = o1} b1 off1 new1 w1 v1) (bodiless n2) = absurd (n2 b1)
walks_determined u (entered {path = path1} {after = after1} {rest = rest1} {o = o1} b1 off1 new1 w1 v1) (left b2 off2 known2 w2) = absurd (new1 known2)
walks_determined u (entered {path = path1} {after = after1} {rest = rest1} {o = o1} b1 off1 new1 w1 v1) (entered {path = path2} {after = after2} {rest = rest2} {o = o2} b2 off2 new2 w2 v2) = let same : after1 ≡ after2 = ap seen_of (walks_determined u w1 w2) in walks_determined u v1 (subst (λ (seen : List ℕ). Walks u path1 seen rest1 o2) (sym same) v2)
walks_determined u (entered {path = path1} {after = after1} {rest = rest1} {o = o1} b1 off1 new1 w1 v1) (refused {o = o2} b2 off2 new2 w2 r2) = absurd (walked_refused after1 o2 (walks_determined u w1 w2) r2)
walks_determined u (refused {o = o1} b1 off1 new1 w1 r1) (recursive b2 on2) = absurd (off1 on2)
walks_determined u (refused {o = o1} b1 off1 new1 w1 r1) (bodiless n2) = absurd (n2 b1)
walks_determined u (refused {o = o1} b1 off1 new1 w1 r1) (left b2 off2 known2 w2) = absurd (new1 known2)
walks_determined u (refused {o = o1} b1 off1 new1 w1 r1) (entered {path = path2} {after = after2} {rest = rest2} {o = o2} b2 off2 new2 w2 v2) = absurd (walked_refused after2 o1 (sym (walks_determined u w1 w2)) r1)
walks_determined u (refused {o = o1} b1 off1 new1 w1 r1) (refused {o = o2} b2 off2 new2 w2 r2) = walks_determined u w1 w2

-- There is one entry at most.
pub entry_determined : (u : UnitTree) (name : List ℕ) (f g : ℕ) → IsEntry u name f → IsEntry u name g → f ≡ g
entry_determined u name f g h k =
    ⊎_elim (λ (lt : f < g). absurd (k.1 f lt h.0)) (λ (le : g ≤ f). ⊎_elim (λ (e : f ≡ g). e) (λ (ne : f ≡ g → ⊥). absurd (h.1 g (omega arith) k.0)) (cases_eq f g)) (cases_lt f g)

-- One outcome of the walk from the entry of a name
record Comes (u : UnitTree) (name : List ℕ) (o : Outcome) : Type 0 where
  entry : ℕ
  is_entry : IsEntry u name entry
  walks : WalksFrom u entry o

outcome_determined : (u : UnitTree) (name : List ℕ) (o p : Outcome) → Comes u name o → Comes u name p → o ≡ p
outcome_determined u name o p a b =
    walks_determined u a.walks (subst (λ (f : ℕ). WalksFrom u f p) (sym (entry_determined u name a.entry b.entry a.is_entry b.is_entry)) b.walks)

refusal_comes : (u : UnitTree) (name : List ℕ) (o : Outcome) → IsRefused u name o → Comes u name o
refusal_comes u name o r = record { entry = r.entry; is_entry = r.is_entry; walks = r.walks }

paths_come : (u : UnitTree) (name : List ℕ) (ps : List CallPath) → (h : HasPaths u name ps) → Comes u name (walked h.seen)
paths_come u name ps h = record { entry = h.entry; is_entry = h.is_entry; walks = h.walks }

paths_determined : (u : UnitTree) (name : List ℕ) (ps qs : List CallPath) → HasPaths u name ps → HasPaths u name qs → ps ≡ qs
paths_determined u name ps qs a b =
    listing_determined u a.entry ps qs a.is_listing (subst (λ (f : ℕ). IsListing u f qs) (sym (entry_determined u name a.entry b.entry a.is_entry b.is_entry)) b.is_listing)

not_refused : (u : UnitTree) (name : List ℕ) (ps : List CallPath) (o : Outcome) → IsRefusal o → HasPaths u name ps → IsRefused u name o → ⊥
not_refused u name ps o r h k = walked_refused h.seen o (outcome_determined u name (walked h.seen) o (paths_come u name ps h) (refusal_comes u name o k)) r

-- which limit is passed
passes_is : (u : UnitTree) (ps : List CallPath) (what : Quantity) (n : ℕ) → Passes u ps what n
    → ((what ≡ quantity.Paths) × (n ≡ 4096) × (4096 < length ps)) ⊎ ((what ≡ quantity.Variables) × (n ≡ 65536) × (length ps ≤ 4096) × (65536 < variables_of u ps))
passes_is u ps quantity.Text n h = absurd h
passes_is u ps quantity.Nesting n h = absurd h
passes_is u ps quantity.Paths n h = inl (refl, h.0, h.1)
passes_is u ps quantity.Variables n h = inr (refl, h.0, h.1, h.2)
passes_is u ps quantity.Points n h = absurd h
passes_is u ps quantity.Packs n h = absurd h

limit_determined : (u : UnitTree) (ps : List CallPath) (what that : Quantity) (n m : ℕ) → Passes u ps what n → Passes u ps that m → (what ≡ that) × (n ≡ m)
limit_determined u ps what that n m h k =
    ⊎_elim
    (λ (a : (what ≡ quantity.Paths) × (n ≡ 4096) × (4096 < length ps)).
    ⊎_elim
    (λ (b : (that ≡ quantity.Paths) × (m ≡ 4096) × (4096 < length ps)). (a.0 ∙ sym b.0, a.1 ∙ sym b.1))
    (λ (b : (that ≡ quantity.Variables) × (m ≡ 65536) × (length ps ≤ 4096) × (65536 < variables_of u ps)). absurd (omega (arith, a.2, b.2)))
    (passes_is u ps that m k))
    (λ (a : (what ≡ quantity.Variables) × (n ≡ 65536) × (length ps ≤ 4096) × (65536 < variables_of u ps)).
    ⊎_elim
    (λ (b : (that ≡ quantity.Paths) × (m ≡ 4096) × (4096 < length ps)). absurd (omega (arith, a.2, b.2)))
    (λ (b : (that ≡ quantity.Variables) × (m ≡ 65536) × (length ps ≤ 4096) × (65536 < variables_of u ps)). (a.0 ∙ sym b.0, a.1 ∙ sym b.1))
    (passes_is u ps that m k))
    (passes_is u ps what n h)

-- where there are paths within the limits, none is passed
within_passes : (u : UnitTree) (ps : List CallPath) (what : Quantity) (n : ℕ) → length ps ≤ 4096 → variables_of u ps ≤ 65536 → Passes u ps what n → ⊥
within_passes u ps what n few small h =
    ⊎_elim
    (λ (a : (what ≡ quantity.Paths) × (n ≡ 4096) × (4096 < length ps)). absurd (omega (arith, a.2)))
    (λ (a : (what ≡ quantity.Variables) × (n ≡ 65536) × (length ps ≤ 4096) × (65536 < variables_of u ps)). absurd (omega (arith, a.3)))
    (passes_is u ps what n h)

cycle_or_call : (names : List (List ℕ)) (name : List ℕ) (at : Pos) → recursion names ≡ undefined name at → ⊥
cycle_or_call names name at e = cc

pub answer_determined : AnswerIsDetermined
answer_determined u name (Ok ps1) (Ok ps2) apart other h k = ap (λ (ps : List CallPath). Ok ps) (paths_determined u name ps1 ps2 h.0 k.0)
answer_determined u name (Ok ps1) (Err (error.NoEntry n2)) apart other h k = absurd (k.1 h.0.entry h.0.is_entry.0)
answer_determined u name (Ok ps1) (Err (error.Recursion cycle2)) apart other h k = absurd (not_refused u name ps1 (recursion cycle2) tt h.0 k)
answer_determined u name (Ok ps1) (Err (error.UndefinedCall f2 at2)) apart other h k = absurd (not_refused u name ps1 (undefined f2 at2) tt h.0 k)
answer_determined u name (Ok ps1) (Err (error.Limit what2 n2)) apart other h k = absurd (within_passes u ps1 what2 n2 h.1 h.2 (subst (λ (ps : List CallPath). Passes u ps what2 n2) (sym (paths_determined u name ps1 k.0 h.0 k.1)) k.2))
answer_determined u name (Ok ps1) (Err error.Memory) apart other h k = absurd (other refl)
answer_determined u name (Err (error.NoEntry n1)) (Ok ps2) apart other h k = absurd (h.1 k.0.entry k.0.is_entry.0)
answer_determined u name (Err (error.NoEntry n1)) (Err (error.NoEntry n2)) apart other h k = ap (λ (n : List ℕ). Err (error.NoEntry n)) (h.0 ∙ sym k.0)
answer_determined u name (Err (error.NoEntry n1)) (Err (error.Recursion cycle2)) apart other h k = absurd (h.1 k.entry k.is_entry.0)
answer_determined u name (Err (error.NoEntry n1)) (Err (error.UndefinedCall f2 at2)) apart other h k = absurd (h.1 k.entry k.is_entry.0)
answer_determined u name (Err (error.NoEntry n1)) (Err (error.Limit what2 n2)) apart other h k = absurd (h.1 k.1.entry k.1.is_entry.0)
answer_determined u name (Err (error.NoEntry n1)) (Err error.Memory) apart other h k = absurd (other refl)
answer_determined u name (Err (error.Recursion cycle1)) (Ok ps2) apart other h k = absurd (not_refused u name ps2 (recursion cycle1) tt k.0 h)
answer_determined u name (Err (error.Recursion cycle1)) (Err (error.NoEntry n2)) apart other h k = absurd (k.1 h.entry h.is_entry.0)
answer_determined u name (Err (error.Recursion cycle1)) (Err (error.Recursion cycle2)) apart other h k = ap (λ (o : Outcome). Err (error.Recursion (cycle_in o))) (outcome_determined u name (recursion cycle1) (recursion cycle2) (refusal_comes u name (recursion cycle1) h) (refusal_comes u name (recursion cycle2) k))
answer_determined u name (Err (error.Recursion cycle1)) (Err (error.UndefinedCall f2 at2)) apart other h k = absurd (cycle_or_call cycle1 f2 at2 (outcome_determined u name (recursion cycle1) (undefined f2 at2) (refusal_comes u name (recursion cycle1) h) (refusal_comes u name (undefined f2 at2) k)))
answer_determined u name (Err (error.Recursion cycle1)) (Err (error.Limit what2 n2)) apart other h k = absurd (not_refused u name k.0 (recursion cycle1) tt k.1 h)
answer_determined u name (Err (error.Recursion cycle1)) (Err error.Memory) apart other h k = absurd (other refl)
answer_determined u name (Err (error.UndefinedCall f1 at1)) (Ok ps2) apart other h k = absurd (not_refused u name ps2 (undefined f1 at1) tt k.0 h)
answer_determined u name (Err (error.UndefinedCall f1 at1)) (Err (error.NoEntry n2)) apart other h k = absurd (k.1 h.entry h.is_entry.0)
answer_determined u name (Err (error.UndefinedCall f1 at1)) (Err (error.Recursion cycle2)) apart other h k = absurd (cycle_or_call cycle2 f1 at1 (sym (outcome_determined u name (undefined f1 at1) (recursion cycle2) (refusal_comes u name (undefined f1 at1) h) (refusal_comes u name (recursion cycle2) k))))
answer_determined u name (Err (error.UndefinedCall f1 at1)) (Err (error.UndefinedCall f2 at2)) apart other h k = ap (λ (o : Outcome). Err (error.UndefinedCall (name_in o) (place_in at1 o))) (outcome_determined u name (undefined f1 at1) (undefined f2 at2) (refusal_comes u name (undefined f1 at1) h) (refusal_comes u name (undefined f2 at2) k))
answer_determined u name (Err (error.UndefinedCall f1 at1)) (Err (error.Limit what2 n2)) apart other h k = absurd (not_refused u name k.0 (undefined f1 at1) tt k.1 h)
answer_determined u name (Err (error.UndefinedCall f1 at1)) (Err error.Memory) apart other h k = absurd (other refl)
answer_determined u name (Err (error.Limit what1 n1)) (Ok ps2) apart other h k = absurd (within_passes u ps2 what1 n1 k.1 k.2 (subst (λ (ps : List CallPath). Passes u ps what1 n1) (paths_determined u name h.0 ps2 h.1 k.0) h.2))
answer_determined u name (Err (error.Limit what1 n1)) (Err (error.NoEntry n2)) apart other h k = absurd (k.1 h.1.entry h.1.is_entry.0)
answer_determined u name (Err (error.Limit what1 n1)) (Err (error.Recursion cycle2)) apart other h k = absurd (not_refused u name h.0 (recursion cycle2) tt h.1 k)
answer_determined u name (Err (error.Limit what1 n1)) (Err (error.UndefinedCall f2 at2)) apart other h k = absurd (not_refused u name h.0 (undefined f2 at2) tt h.1 k)
answer_determined u name (Err (error.Limit what1 n1)) (Err (error.Limit what2 n2)) apart other h k = let same : (what1 ≡ what2) × (n1 ≡ n2) = limit_determined u k.0 what1 what2 n1 n2 (subst (λ (ps : List CallPath). Passes u ps what1 n1) (paths_determined u name h.0 k.0 h.1 k.1) h.2) k.2 in ap (λ (q : Quantity). Err (error.Limit q n1)) same.0 ∙ ap (λ (n : ℕ). Err (error.Limit what2 n)) same.1
answer_determined u name (Err (error.Limit what1 n1)) (Err error.Memory) apart other h k = absurd (other refl)
answer_determined u name (Err error.Memory) (Ok ps2) apart other h k = absurd (apart refl)
answer_determined u name (Err error.Memory) (Err (error.NoEntry n2)) apart other h k = absurd (apart refl)
answer_determined u name (Err error.Memory) (Err (error.Recursion cycle2)) apart other h k = absurd (apart refl)
answer_determined u name (Err error.Memory) (Err (error.UndefinedCall f2 at2)) apart other h k = absurd (apart refl)
answer_determined u name (Err error.Memory) (Err (error.Limit what2 n2)) apart other h k = absurd (apart refl)
answer_determined u name (Err error.Memory) (Err error.Memory) apart other h k = absurd (apart refl)
