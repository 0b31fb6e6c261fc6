-- Lists of pairs: a Hold is an element and its run number, a Sending an element and how many of its sends were made, a Resetting an exit and
-- how many members of its component are still to be armed, a note an element and a word of it that was found.
use Rattle.std.specs.Prelude.{ℕ, ◌+◌, ◌/◌, ◌==◌, List, [], ◌∷◌, take, max, count_by, if◌then◌else◌}
use Rattle.pk_core.specs.declared.events.Status.{Status}
use Rattle.pk_core.specs.declared.events.Status.TheVariants.{Waiting, Open, Held, Done}

-- how many tokens of e there are
abbrev pub times : ℕ → List (ℕ × ℕ) → ℕ
times e [] = 0
times e (h ∷ hs) = (if h.0 == e then 1 else 0) + times e hs

-- the number of the first token of e
abbrev pub number_of : ℕ → List (ℕ × ℕ) → ℕ
number_of e [] = 0
number_of e (h ∷ hs) = if h.0 == e then h.1 else number_of e hs

abbrev pub drop_one : ℕ → List (ℕ × ℕ) → List (ℕ × ℕ)
drop_one e [] = []
drop_one e (h ∷ hs) = if h.0 == e then hs else h ∷ drop_one e hs

-- how many Resettings are of components with the head e
abbrev pub heading : (ℕ → ℕ) → ℕ → List (ℕ × ℕ) → ℕ
heading head e [] = 0
heading head e (r ∷ rs) = (if head r.0 == e then 1 else 0) + heading head e rs

-- how often e is still to be armed
abbrev pub pending : (ℕ → List ℕ) → ℕ → List (ℕ × ℕ) → ℕ
pending members e [] = 0
pending members e (r ∷ rs) = count_by (λ u. u == e) (take r.1 (members r.0)) + pending members e rs

-- the greatest run number in the words of e that were found
abbrev pub seen_run : ℕ → List (ℕ × ℕ) → ℕ
seen_run e [] = 0
seen_run e (n ∷ ns) = if n.0 == e then max (n.1 / 1048576) (seen_run e ns) else seen_run e ns

abbrev pub total : {V : Type 0} → (V → ℕ) → List V → ℕ
total f [] = 0
total f (v ∷ vs) = f v + total f vs

abbrev pub one_if_held : Status → ℕ
one_if_held (Waiting n) = 0
one_if_held Open = 0
one_if_held Held = 1
one_if_held Done = 0

abbrev pub one_if_any : {A : Type 0} → List A → ℕ
one_if_any [] = 0
one_if_any (x ∷ xs) = 1
