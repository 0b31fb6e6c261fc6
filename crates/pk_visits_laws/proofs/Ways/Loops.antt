-- Branches, loops and switches: what goes on behind them.
use Rattle.std.proofs.Common.{◌≡◌, ℕ, zero, suc, ◌+◌, ◌<◌, ◌≤◌, ◌⊎◌, List, [], ◌∷◌, length, Bool, if◌then◌else◌, ℤ, refl, sym, ◌∙◌, subst, inl, inr, arith}
use Rattle.pk_ctypes.specs.declared.places.Pos.{Pos}
use Rattle.pk_ctypes.specs.declared.types.IntType.{IntType}
use Rattle.pk_ctypes.specs.declared.types.Op.TheVariants.{Eq}
use Rattle.pk_graph.specs.declared.trees.Site.{Site}
use Rattle.pk_graph.specs.Trees.{TreeOf, constant, Skip}
use Rattle.pk_draft.specs.declared.drafts.Region.{Region}
use Rattle.pk_draft.specs.Drafts.{EdgeFrom, DraftOf, Given, at, on, in_scope, placed, all_placed, fresh, go, away, come}
use Rattle.pk_draft.specs.Folding.{binary_tree}
use Rattle.pk_lower_row.specs.Rows as rows
use Rattle.pk_lower_statement.specs.declared.statements.Exits.{Exits}
use Rattle.pk_lower_statement.specs.Statements.{inside, if_draft, loop_begun, while_draft, do_draft, for_draft, case_test, case_tests, in_switch, switch_begun}
use Rattle.pk_visits.proofs.Slots.{Never}
use Rattle.pk_visits_laws.proofs.Ways.Adding.{adds_more, one_edge}
use Rattle.pk_visits_laws.proofs.Ways.Spans.{Span}
use Rattle.pk_visits_laws.proofs.Ways.Goes.{GoesBy, SplitsBy, splits_then, from_mark, reserving, going_on, both_ends, at_new}
use Rattle.pk_visits_laws.proofs.Ways.Rows.{Goes, Makes, Chooses, goes_trans, splits_trans, goes_refl, link_splits, guards_split}

-- with marks
abbrev pub GoesOn : {V : Type 0} → (ℕ → ℕ) → (Mark : ℕ → Type 0) → DraftOf V → DraftOf V → Type 0
GoesOn z M d e = GoesBy z M d.point d.points d.edges d.regions e.point e.points e.edges e.regions

abbrev pub SplitsOn : {V : Type 0} → (ℕ → ℕ) → (Mark : ℕ → Type 0) → DraftOf V → DraftOf V → Type 0
SplitsOn z M d e = SplitsBy z M d.point d.points d.edges d.regions e.points e.edges e.regions

pub away_goes : {V : Type 0} (z : ℕ → ℕ) (q : ℕ) (d : DraftOf V) → Goes z d (away q d)
away_goes z q d = at_new (link_splits z Skip q d)

-- a mark is placed
pub come_goes : {V : Type 0} (z : ℕ → ℕ) (y : ℕ) (d : DraftOf V) → GoesOn z (λ x. x ≡ y) d (come y d)
come_goes z y d = record {
  points = omega arith;
  point = inr (inr refl);
  adds = λ h f. adds_more (λ x e. (inl e, λ c. (f y refl).1 (sym c ∙ e))) (one_edge z d.point Skip y d.edges d.regions);
  rooted = λ h f k. k;
}

-- a form without marks
pub with_marks : {V : Type 0} {z : ℕ → ℕ} (M : ℕ → Type 0) {p n q m : ℕ} {es fs : List (EdgeFrom V)} {rs ts : List Region} → GoesBy z Never p n es rs q m fs ts → GoesBy z M p n es rs q m fs ts
with_marks {z = z} M {p} {n} {q} {m} a = record {
  points = a.points;
  point = more q a.point;
  adds = λ h f. adds_more (λ x s. (more x s.0, s.1)) (a.adds h (λ x k. absurd k));
  rooted = λ h f k. a.rooted h (λ x k. absurd k) k;
} where
  more : (x : ℕ) → Span Never p n m x → Span M p n m x
  more x (inl e) = inl e
  more x (inr (inl s)) = inr (inl s)
  more x (inr (inr k)) = absurd k

-- ---- branches

abbrev And : (ℕ → Type 0) → ℕ → ℕ → Type 0
And M p x = (x ≡ p) ⊎ M x

-- marks, and new points of a form
abbrev pub New : (Mark : ℕ → Type 0) → (n c x : ℕ) → Type 0
New M n c x = M x ⊎ ((n ≤ x) × (x < n + c))

old : (M : ℕ → Type 0) (n c x : ℕ) → M x → New M n c x
old M n c x k = inl k

within : (M N : ℕ → Type 0) (n c p : ℕ) → n ≤ p → p < n + c → ((x : ℕ) → M x → New N n c x) → (x : ℕ) → And M p x → New N n c x
within M N n c p from to k x (inl e) = inr (omega (arith, from, e), omega (arith, to, e))
within M N n c p from to k x (inr m) = k x m

-- marks come before what is new
abbrev pub IsBefore : (ℕ → Type 0) → ℕ → Type 0
IsBefore M n = (x : ℕ) → M x → x < n

unmarked : (M : ℕ → Type 0) (n p : ℕ) → IsBefore M n → n ≤ p → M p → ⊥
unmarked M n p before le k = let i = before p k in absurd (omega (arith, i, le))

also_unmarked : (M : ℕ → Type 0) (q p : ℕ) → (p ≡ q → ⊥) → (M p → ⊥) → And M q p → ⊥
also_unmarked M q p other none (inl e) = other e
also_unmarked M q p other none (inr k) = none k

-- a choice, and on from an end that is a mark
chosen_at : {V : Type 0} {z : ℕ → ℕ} (N : ℕ → Type 0) {p n s m l : ℕ} {es fs gs : List (EdgeFrom V)} {rs ts us : List Region} → (N s → ⊥) → SplitsBy z Never p n es rs m fs ts → SplitsBy z N s m fs ts l gs us → SplitsBy z (And N s) p n es rs l gs us
chosen_at N {s = s} none a b = from_mark {L = And N s} (λ x k. absurd k) (λ x k. inr k) (λ x k j. k) (inl refl) (λ k. k) none a b

-- the same where the first has marks
then_at : {V : Type 0} {z : ℕ → ℕ} (M : ℕ → Type 0) {p n s m l : ℕ} {es fs gs : List (EdgeFrom V)} {rs ts us : List Region} → (M s → ⊥) → SplitsBy z M p n es rs m fs ts → SplitsBy z Never s m fs ts l gs us → SplitsBy z (And M s) p n es rs l gs us
then_at M {s = s} none a b = from_mark {L = And M s} (λ x k. inr k) (λ x k. absurd k) (λ x k j. j) (inl refl) none (λ k. k) a b

-- an edge from where a form goes on
pub linked : {V : Type 0} (z : ℕ → ℕ) (M : ℕ → Type 0) (q : ℕ) (d e : DraftOf V) → GoesOn z M d e → SplitsOn z M d (go Skip q e)
linked z M q d e a = splits_then {M = M} {N = Never} {L = M} (λ x k. k) (λ x k. absurd k) (λ x k j. j) a (link_splits z Skip q e)

pub if_goes : {V : Type 0} (z : ℕ → ℕ) (M N L : ℕ → Type 0) (p : Pos) (w : rows.Ways V) (a b : DraftOf V → DraftOf V) (d : DraftOf V) → Chooses z w.choice
    → ((x : ℕ) → M x → L x) → ((x : ℕ) → N x → L x) → ((x : ℕ) → M x → N x → ⊥) → IsBefore L d.points
    → ((r : DraftOf V) → d.points ≤ r.points → GoesOn z M r (a r)) → ((r : DraftOf V) → d.points ≤ r.points → GoesOn z N r (b r)) → GoesOn z L d (if_draft p w a b d)
if_goes {V} z M N L p w a b d c first second apart before ha hb =
    let n = d.points in
    let d0 = on p d in
    let d1 = fresh 2 d0 in
    let d2 = w.choice n (n + 1) d1 in
    let t = a (at n d2) in
    let u = b (at (n + 1) t) in
    let split = c n (n + 1) d1 in
    let one = ha (at n d2) (let i = split.points in omega (arith, i)) in
    let two = hb (at (n + 1) t) (let i = split.points in let j = one.points in omega (arith, i, j)) in
    at_new (reserving {L = And (And L (n + 1)) n} 2 (within (And L (n + 1)) L n 2 n (omega arith) (omega arith) (within L L n 2 (n + 1) (omega arith) (omega arith) (old L n 2)))
    (chosen_at (And L (n + 1)) (also_unmarked L (n + 1) n (λ e. absurd (omega (arith, e))) (unmarked L n n before (omega arith))) split
    (both_ends {L = And L (n + 1)} (λ x k. inr (first x k)) (λ x k. inr (second x k)) apart (inl refl) (λ k. unmarked L n (n + 1) before (omega arith) (first (n + 1) k)) (λ k. unmarked L n (n + 1) before (omega arith) (second (n + 1) k)) one two Skip u.points)))

-- ---- loops

-- behind the three points of a loop, from the first of which it goes on, the last is where it ends
three : (M : ℕ → Type 0) (n : ℕ) (x : ℕ) → And (And M (n + 1)) n x → New M n 3 x
three M n = within (And M (n + 1)) M n 3 n (omega arith) (omega arith) (within M M n 3 (n + 1) (omega arith) (omega arith) (old M n 3))

not_end : (M : ℕ → Type 0) (n : ℕ) → IsBefore M n → And (And M (n + 1)) n (n + 2) → ⊥
not_end M n before = also_unmarked (And M (n + 1)) n (n + 2) (λ e. absurd (omega (arith, e))) (also_unmarked M (n + 1) (n + 2) (λ e. absurd (omega (arith, e))) (unmarked M n (n + 2) before (omega arith)))

not_head : (M : ℕ → Type 0) (n : ℕ) → IsBefore M n → And M (n + 1) n → ⊥
not_head M n before = also_unmarked M (n + 1) n (λ e. absurd (omega (arith, e))) (unmarked M n n before (omega arith))

pub while_goes : {V : Type 0} (z : ℕ → ℕ) (M : ℕ → Type 0) (w : rows.Ways V) (s : Exits → DraftOf V → DraftOf V) (x : Exits) (d : DraftOf V) → Chooses z w.choice → IsBefore M d.points
    → ((b k : ℕ) (r : DraftOf V) → d.points ≤ r.points → GoesOn z M r (s (inside b k x) r)) → GoesOn z M d (while_draft w s x d)
while_goes z M w s x d c before h =
    let n = d.points in
    let d1 = loop_begun d in
    let d2 = w.choice (n + 1) (n + 2) d1 in
    let r = at (n + 1) d2 in
    let split = c (n + 1) (n + 2) d1 in
    let body = h (n + 2) n r (let i = split.points in omega (arith, i)) in
    going_on {L = And (And M (n + 1)) n} 3 (n + 2) (omega arith) (omega arith) (not_end M n before) (three M n)
    (chosen_at (And M (n + 1)) (not_head M n before) (link_splits z Skip n (fresh 3 d))
    (chosen_at M (unmarked M n (n + 1) before (omega arith)) split (linked z M n r (s (inside (n + 2) n x) r) body)))

pub do_goes : {V : Type 0} (z : ℕ → ℕ) (M : ℕ → Type 0) (p : Pos) (w : rows.Ways V) (s : Exits → DraftOf V → DraftOf V) (x : Exits) (d : DraftOf V) → Chooses z w.choice → IsBefore M d.points
    → ((b k : ℕ) (r : DraftOf V) → d.points ≤ r.points → GoesOn z M r (s (inside b k x) r)) → GoesOn z M d (do_draft p w s x d)
do_goes z M p w s x d c before h =
    let n = d.points in
    let d1 = loop_begun d in
    let r = at n d1 in
    let e = go Skip (n + 1) (s (inside (n + 2) (n + 1) x) r) in
    let body = h (n + 2) (n + 1) r (omega arith) in
    let split = c n (n + 2) (on p e) in
    going_on {L = And (And M (n + 1)) n} 3 (n + 2) (omega arith) (omega arith) (not_end M n before) (three M n)
    (chosen_at (And M (n + 1)) (not_head M n before) (link_splits z Skip n (fresh 3 d))
    (then_at M (unmarked M n (n + 1) before (omega arith)) (linked z M (n + 1) r (s (inside (n + 2) (n + 1) x) r) body) split))

-- from the head of a `for` on, whose three points are the next
for_splits : {V : Type 0} (z : ℕ → ℕ) (M : ℕ → Type 0) (p : Pos) (test : (p q : ℕ) → DraftOf V → DraftOf V) (third : DraftOf V → DraftOf V) (s : Exits → DraftOf V → DraftOf V) (x : Exits) (e k : ℕ) (d : DraftOf V) → Chooses z test → Makes z third → IsBefore M d.points
    → ((b k : ℕ) (r : DraftOf V) → d.points ≤ r.points → GoesOn z M r (s (inside b k x) r))
    → SplitsOn z M d (Rattle.pk_lower_statement.specs.Statements.for_from p test third s x (d.points + 1) (d.points + 2) e (loop_begun d))
for_splits z M p test third s x e k d c c3 before h =
    let n = d.points in
    let d1 = loop_begun d in
    let d2 = test (n + 1) e d1 in
    let r = at (n + 1) d2 in
    let split = c (n + 1) e d1 in
    let body = h e (n + 2) r (let i = split.points in omega (arith, i)) in
    let f = go Skip (n + 2) (s (inside e (n + 2) x) r) in
    let o = in_scope d1.here.scope (on p f) in
    let back = splits_trans (c3 o) (link_splits z Skip n (third o)) in
    reserving {L = And (And (And M (n + 2)) (n + 1)) n} 3 (within (And (And M (n + 2)) (n + 1)) M n 3 n (omega arith) (omega arith) (within (And M (n + 2)) M n 3 (n + 1) (omega arith) (omega arith) (within M M n 3 (n + 2) (omega arith) (omega arith) (old M n 3))))
    (chosen_at (And (And M (n + 2)) (n + 1)) (also_unmarked (And M (n + 2)) (n + 1) n (λ e. absurd (omega (arith, e))) (also_unmarked M (n + 2) n (λ e. absurd (omega (arith, e))) (unmarked M n n before (omega arith)))) (link_splits z Skip n (fresh 3 d))
    (chosen_at (And M (n + 2)) (also_unmarked M (n + 2) (n + 1) (λ e. absurd (omega (arith, e))) (unmarked M n (n + 1) before (omega arith))) split
    (then_at M (unmarked M n (n + 2) before (omega arith)) (linked z M (n + 2) r (s (inside e (n + 2) x) r) body) back)))

pub for_goes : {V : Type 0} (z : ℕ → ℕ) (M : ℕ → Type 0) (p : Pos) (first : DraftOf V → DraftOf V) (test : (p q : ℕ) → DraftOf V → DraftOf V) (third : DraftOf V → DraftOf V) (s : Exits → DraftOf V → DraftOf V) (x : Exits) (d : DraftOf V) → Makes z first → Chooses z test → Makes z third → IsBefore M d.points
    → ((b k : ℕ) (r : DraftOf V) → d.points ≤ r.points → GoesOn z M r (s (inside b k x) r)) → GoesOn z M d (for_draft p first test third s x d)
for_goes z M p first test third s x d c1 c c3 before h =
    let n = d.points in
    let d1 = fresh 1 d in
    let f = on p (first d1) in
    let begin = c1 d1 in
    let le : n ≤ f.points = let i = begin.points in omega (arith, i) in
    going_on {L = M} 1 n (omega arith) (omega arith) (unmarked M n n before (omega arith)) (old M n 1)
    (splits_then {M = Never} {N = M} {L = M} (λ x k. absurd k) (λ x k. k) (λ x k j. k) begin
    (for_splits z M p test third s x n 0 f c c3 (λ x k. let i = before x k in omega (arith, i, le)) (λ b k r m. h b k r (omega (arith, m, le)))))

-- ---- switches

all_point : {V : Type 0} (n p : ℕ) (d : DraftOf V) → (all_placed n p d).point ≡ d.point
all_point zero p d = refl
all_point (suc n) p d = all_point n (p + 1) (placed p d)

all_edges : {V : Type 0} (n p : ℕ) (d : DraftOf V) → (all_placed n p d).edges ≡ d.edges
all_edges zero p d = refl
all_edges (suc n) p d = all_edges n (p + 1) (placed p d)

all_regions : {V : Type 0} (n p : ℕ) (d : DraftOf V) → (all_placed n p d).regions ≡ d.regions
all_regions zero p d = refl
all_regions (suc n) p d = all_regions n (p + 1) (placed p d)

-- a form behind new points, as many as are asked for
pub from_fresh : {V : Type 0} (z : ℕ → ℕ) (L : ℕ → Type 0) (n : ℕ) (d e : DraftOf V) → SplitsOn z L (fresh n d) e → SplitsBy z L d.point (d.points + n) d.edges d.regions e.points e.edges e.regions
from_fresh z L n d e a =
    subst (λ q. SplitsBy z L q (d.points + n) d.edges d.regions e.points e.edges e.regions) (all_point n d.points d)
    (subst (λ es. SplitsBy z L (fresh n d).point (d.points + n) es d.regions e.points e.edges e.regions) (all_edges n d.points d)
    (subst (λ rs. SplitsBy z L (fresh n d).point (d.points + n) (fresh n d).edges rs e.points e.edges e.regions) (all_regions n d.points d) a))

pub cases_go : {V : Type 0} (z : ℕ → ℕ) (s : Site) (t : IntType) (r : TreeOf V) (zs : List ℤ) (p : ℕ) (d : DraftOf V) → Goes z d (case_tests s t r zs p d)
unfolding case_tests
cases_go z s t r [] p d = goes_refl z d
cases_go z s t r (i ∷ zs) p d =
    goes_trans (going_on {L = Never} 1 d.points (omega arith) (omega arith) (λ k. k) (λ x k. absurd k) (guards_split z p d.points (binary_tree Eq s t r (constant t i), fresh 1 d)))
    (cases_go z s t r zs (p + 1) (case_test s t r i p d))

-- how many points a switch makes for its end, its cases and its default
abbrev pub ends_of : List ℤ → Bool → ℕ
ends_of zs b = 1 + length zs + (if b then 1 else 0)

pub begun_goes : {V : Type 0} (z : ℕ → ℕ) (s : Site) (t : IntType) (zs : List ℤ) (b : Bool) (k : Given V) → Goes z (fresh (ends_of zs b) k.1) (switch_begun s t zs b k)
begun_goes z s t zs b k =
    let f = fresh (ends_of zs b) k.1 in
    let e = k.1.points in
    goes_trans (cases_go z s t k.0 zs (e + 1) f) (away_goes z (if b then e + 1 + length zs else e) (case_tests s t k.0 zs (e + 1) f))

-- behind its value, to its end, where the body has marks among those and the new points
pub switch_goes : {V : Type 0} (z : ℕ → ℕ) (M L : ℕ → Type 0) (s : Site) (t : IntType) (zs : List ℤ) (b : Bool) (body : Exits → DraftOf V → DraftOf V) (x : Exits) (k : Given V) → (L k.1.points → ⊥) → ((q : ℕ) → L q → New M k.1.points (ends_of zs b) q)
    → GoesOn z L (switch_begun s t zs b k) (body (in_switch k.1.points (length zs) x) (switch_begun s t zs b k)) → GoesOn z M k.1 (go Skip k.1.points (body (in_switch k.1.points (length zs) x) (switch_begun s t zs b k)))
switch_goes z M L s t zs b body x k none new h =
    let e = k.1.points in
    let u = switch_begun s t zs b k in
    let f = body (in_switch e (length zs) x) u in
    going_on {L = L} (ends_of zs b) e (omega arith) (omega arith) none new
    (from_fresh z L (ends_of zs b) k.1 (go Skip e f) (splits_then {M = Never} {N = L} {L = L} (λ x k. absurd k) (λ x k. k) (λ x k j. k) (begun_goes z s t zs b k) (linked z L e u f h)))
