-- Where the numbered graph fails the program does, at the same place.
use Rattle.std.proofs.Common.{◌≡◌, ℕ, ◌⊎◌, List, [], ◌∷◌, length, false, refl, sym, ap, ◌∙◌, subst, inl, inr}
use Rattle.std.specs.Prelude.{Option, Some, None}
use Rattle.std.specs.List.{Contains}
use Rattle.pk_ctypes.specs.declared.types.IntType.{IntType}
use Rattle.pk_graph.specs.Trees.{Set, Havoc}
use Rattle.pk_graph.specs.Graphs.{PathOf, EdgeOf, point_at}
use Rattle.pk_graph.specs.Steps as steps
use Rattle.pk_graph.specs.Steps.{Numbers, Failure, effect, are_any}
use Rattle.pk_graph.specs.Stores.{Stored, storing}
use Rattle.pk_draft.specs.Drafts.{EdgeFrom, DraftOf, nowhere}
use Rattle.pk_number.specs.Numbering.{numbered}
use Rattle.pk_meaning.specs.Programs.{Program}
use Rattle.pk_meaning.specs.Work.{Place}
use Rattle.pk_meaning.specs.Steps as meaning
use Rattle.pk_meaning.specs.Steps.{Config, Next, step}
use Rattle.pk_meaning.specs.Runs.{Visit, Runs}
use Rattle.pk_meaning.specs.Runs as runs
use Rattle.pk_visits.specs.SameVisits.{FailsAt, EndsAt}
use Rattle.pk_meaning.specs.Endings.{Ends}
use Rattle.pk_visits.proofs.Slots.{Slot, own, Instr, edge, Memory, memory, with_memory, Among, region_at}
use Rattle.pk_visits.proofs.Stands.{Whole, StandsAt}
use Rattle.pk_visits.proofs.Follow.{Answers, Follows, Doomed, now, later, set_does}
use Rattle.pk_visits.proofs.Numbered.Edges.{IsFound, number_of}
use Rattle.pk_visits.proofs.Numbered.Stores.{Naming, AreThere, Mirrors, goes_same, faults_same}
use Rattle.pk_visits.proofs.Numbered.Copies.{renamed_edge}
use Rattle.pk_visits.proofs.Numbered.Visits.{stands_there}
use Rattle.pk_visits_laws.proofs.Same.Pausing.{Pauses, pauses}
use Rattle.pk_visits_laws.proofs.Same.Edges.{IsMadeFrom, edge_back, AreOpposite, no_way, goes_or_fails, both_fail, turned}
use Rattle.pk_visits_laws.proofs.Same.Backward.{IsSetting, slot_edge, fails_always, waits, pauses_there, unseen, Comes}

-- an edge that fails: what the draft has of it
record Fails (d : DraftOf ℕ) (p : ℕ) (ch : Numbers) (s : Stored) (x : Failure) : Type 0 where
  edge : EdgeOf
  made : IsMadeFrom d p edge
  fails : effect storing ch made.made.instr s ≡ steps.Faulted x

fails_at : (paths : List PathOf) (d : DraftOf ℕ) (p n : ℕ) (s : Stored) (x : Failure) → IsFound d p → number_of d p ≡ n → (a : FailsAt (numbered paths d) n s x) → Fails d p a.chosen s x
fails_at paths d p n s x found e a =
    let y = edge_back paths d p a.edge found (subst (λ n. Contains (point_at (numbered paths d) n).edges a.edge) (sym e) a.there) in
    record { edge = a.edge; made = y; fails = ap (λ i. effect storing a.chosen i s) (ap (λ (z : EdgeOf). z.instr) y.is) ∙ a.fails }

-- no edge over slots leads on there
none_goes : (f : Naming) (M : Slot → Type 0) (g : Whole) (d : DraftOf ℕ) (ch : Numbers) (p q : ℕ) (i : Instr) (m after : Memory) (s : Stored) (x : Failure) → IsSetting f M g d → Among (edge p i q) g.edges → Fails d p ch s x
    → AreThere M m → Mirrors f M (length d.made) m s → effect memory ch i m ≡ steps.To after → ⊥
none_goes f M g d ch p q i m after s x set a l there mirrors does =
    let r = goes_same f M (length d.made) m after s ch i set.copy.naming (set.copy.over (edge p i q) a) there mirrors does in
    let y = l.made in
    goes_or_fails ch s r.0 x (renamed_edge f (edge p i q)) y.made (turned y.made (renamed_edge f (edge p i q)) (slot_edge f M g d p q i y.made set a y.there y.from)) r.1 l.fails

-- one that fails does so alike
alike : (f : Naming) (M : Slot → Type 0) (g : Whole) (d : DraftOf ℕ) (ch : Numbers) (p q : ℕ) (i : Instr) (m : Memory) (s : Stored) (x y : Failure) → IsSetting f M g d → Among (edge p i q) g.edges → Fails d p ch s x
    → AreThere M m → Mirrors f M (length d.made) m s → effect memory ch i m ≡ steps.Faulted y → y ≡ x
alike f M g d ch p q i m s x y set a l there mirrors fails =
    let z = l.made in
    sym (both_fail ch s x y z.made (renamed_edge f (edge p i q)) (slot_edge f M g d p q i z.made set a z.there z.from) l.fails
    (faults_same f M (length d.made) m s ch i y set.copy.naming (set.copy.over (edge p i q) a) there mirrors fails))

abbrev waiting : IntType → ℕ → steps.After Stored
waiting t n = steps.Wants t n

never_fails : {x : Failure} (t : IntType) (n : ℕ) → waiting t n ≡ steps.Faulted x → ⊥
never_fails t n e = absurd (cc e)

not_waiting : (f : Naming) (M : Slot → Type 0) (g : Whole) (d : DraftOf ℕ) (ch : Numbers) (p q : ℕ) (y : Slot) (t : IntType) (n : ℕ) (s : Stored) (x : Failure) → IsSetting f M g d → Among (edge p (Havoc y t n) q) g.edges → Fails d p ch s x → are_any t n ch ≡ false → ⊥
not_waiting f M g d ch p q y t n s x set a l none = by (slot_edge f M g d p q (Havoc y t n) l.made.made set a l.made.there l.made.from) where
  by : (l.made.made ≡ renamed_edge f (edge p (Havoc y t n) q)) ⊎ AreOpposite l.made.made (renamed_edge f (edge p (Havoc y t n) q)) → ⊥
  by (inl is) = never_fails t n (sym (waits ch (f y) t n s none) ∙ ap (λ (z : EdgeFrom ℕ). effect storing ch z.instr s) (sym is) ∙ l.fails)
  by (inr o) = absurd (cc o.other)

-- the program goes on unseen, and fails
record FailsSoon (p : Program) (ch : Numbers) (x : Failure) (c : Config) : Type 0 where
  last : Config
  runs : Runs p c [] last
  fails : step p ch last ≡ meaning.Faulted x.fault x.site

soon_behind : {p : Program} {ch : Numbers} {x : Failure} (c b : Config) → step p ch c ≡ meaning.To b → b.is_visit ≡ false → FailsSoon p ch x b → FailsSoon p ch x c
soon_behind {p} {ch} c b is hidden r = record { last = r.last; runs = subst (λ vs. Runs p c vs r.last) (unseen p b [] hidden) (runs.steps ch is r.runs); fails = r.fails }

fails_soon : (f : Naming) (M : Slot → Type 0) (g : Whole) (d : DraftOf ℕ) (set : IsSetting f M g d) (ch : Numbers) (s : Stored) (x : Failure) {c : Config} → Pauses g.program ch c → (p : ℕ) (m : Memory) → Mirrors f M (length d.made) m s → Fails d p ch s x
    → StandsAt g c p m → FailsSoon g.program ch x c
fails_soon f M g d set ch s x {c} (pauses next) p m mirrors l z = by (step g.program ch c) refl (set.law ch p m c z) (λ b is hidden z'. fails_soon f M g d set ch s x (next b is hidden) p m mirrors l z') where
  there : AreThere M m
  there = stands_there M g c p m set.kinds z

  Again : Type 0
  Again = (b : Config) → step g.program ch c ≡ meaning.To b → b.is_visit ≡ false → StandsAt g b p m → FailsSoon g.program ch x b

  on : (b : Config) → step g.program ch c ≡ meaning.To b → Follows g ch p m b → Again → FailsSoon g.program ch x c
  on b is (inl a) again = soon_behind c b is a.0 (again b is a.0 a.1)
  on b is (inr a) again = absurd (none_goes f M g d ch p a.to a.instr m a.after s x set a.there l there mirrors a.does)

  falls : (y : Failure) → step g.program ch c ≡ meaning.Faulted y.fault y.site → Doomed g ch c.path c.here y p m → FailsSoon g.program ch x c
  falls y is (now q i a fails inside) =
      record { last = c; runs = runs.ends; fails = subst (λ (w : Failure). step g.program ch c ≡ meaning.Faulted w.fault w.site) (alike f M g d ch p q i m s x y set a l there mirrors fails) is }
  falls y is (later q w v u a value hidden shown behind) = absurd (none_goes f M g d ch p q (Set (own w) v) m (with_memory (own w) (u ∷ []) m) s x set a l there mirrors (set_does ch (own w) v u m value))

  by : (b : Next) → step g.program ch c ≡ b → Answers g ch c.path c.here p m b → Again → FailsSoon g.program ch x c
  by (meaning.To b) is a again = on b is a again
  by (meaning.Faulted y at) is a again = falls (steps.failure y at) is a
  by meaning.Assumed is a again = absurd (none_goes f M g d ch p nowhere a.0 m m s x set a.1 l there mirrors a.2)
  by (meaning.Returned v) is a again = absurd (no_way d (region_at g.regions 0).points l.made.made set.exit l.made.there (l.made.from ∙ a))
  by (meaning.Wants y n) is a again = absurd (not_waiting f M g d ch p a.0 a.1 y n s x set a.2 l a.3)
  by meaning.Stuck is a again = absurd a

-- on the way to a failure the graph has no other
same_doom : (f : Naming) (M : Slot → Type 0) (g : Whole) (d : DraftOf ℕ) (ch us : Numbers) (k : ℕ) (h : Place) (y x : Failure) (s : Stored) → IsSetting f M g d → (p : ℕ) (m : Memory) → AreThere M m → Mirrors f M (length d.made) m s
    → Doomed g ch k h y p m → Fails d p us s x → y ≡ x
same_doom f M g d ch us k h y x s set p m there mirrors (now q i a fails inside) l = alike f M g d us p q i m s x y set a l there mirrors (fails_always ch us i m y fails)
same_doom f M g d ch us k h y x s set p m there mirrors (later q w v u a value hidden shown behind) l =
    absurd (none_goes f M g d us p q (Set (own w) v) m (with_memory (own w) (u ∷ []) m) s x set a l there mirrors (set_does us (own w) v u m value))

-- ---- ends

runs_then : {p : Program} {c d e : Config} {vs : List Visit} → Runs p c vs d → Runs p d [] e → Runs p c vs e
runs_then runs.ends k = k
runs_then (runs.steps ch is rest) k = runs.steps ch is (runs_then rest k)

-- the run of the program, and what is at its end
pub record EndsSo (p : Program) (c : Config) (vs : List Visit) (end : Option Failure) : Type 0 where
  pub last : Config
  pub runs : Runs p c vs last
  pub ends : Ends p last end

last_of : (f : Naming) (M : Slot → Type 0) (g : Whole) (d : DraftOf ℕ) (c : Config) (vs : List Visit) (n : ℕ) (t : Stored) → Comes f M g d c vs n t → EndsSo g.program c vs None
last_of f M g d c vs n t (inl r) = record { last = r.last; runs = r.runs; ends = tt }
last_of f M g d c vs n t (inr r) = record { last = r.last; runs = r.runs; ends = tt }

failed : (f : Naming) (M : Slot → Type 0) (paths : List PathOf) (g : Whole) (d : DraftOf ℕ) → IsSetting f M g d → (c : Config) (vs : List Visit) (n : ℕ) (t : Stored) (x : Failure) → Comes f M g d c vs n t → FailsAt (numbered paths d) n t x → EndsSo g.program c vs (Some x)
failed f M paths g d set c vs n t x (inl r) a =
    let l = fails_at paths d r.point n t x r.found r.number a in
    let z = fails_soon f M g d set a.chosen t x (pauses_there g set.law a.chosen r.last r.point r.memory r.stands) r.point r.memory r.mirrors l r.stands in
    record { last = z.last; runs = runs_then r.runs z.runs; ends = (a.chosen, z.fails) }
failed f M paths g d set c vs n t x (inr r) a =
    let b = r.behind in
    let l = fails_at paths d b.point n t x b.found b.number a in
    let same = same_doom f M g d r.chosen a.chosen r.last.path r.last.here r.failure x t set b.point b.memory b.there b.mirrors b.doomed l in
    record { last = r.last; runs = r.runs; ends = (r.chosen, subst (λ (w : Failure). step g.program r.chosen r.last ≡ meaning.Faulted w.fault w.site) same r.fails) }

pub ends_so : (f : Naming) (M : Slot → Type 0) (paths : List PathOf) (g : Whole) (d : DraftOf ℕ) → IsSetting f M g d → (c : Config) (vs : List Visit) (n : ℕ) (t : Stored) (end : Option Failure) → Comes f M g d c vs n t → EndsAt (numbered paths d) n t end
    → EndsSo g.program c vs end
ends_so f M paths g d set c vs n t None r a = last_of f M g d c vs n t r
ends_so f M paths g d set c vs n t (Some x) r a = failed f M paths g d set c vs n t x r a
