-- What is known after an assignment.
use Rattle.std.specs.Prelude.{◌≡◌, ℕ, ℤ, pos, List, [], ◌∷◌, slice_set, Option, Some, None, Ok}
use Rattle.pk_graph.specs.Trees.{TreeOf}
use Rattle.pk_graph.specs.Kinds.{IsTyped, IsScalar}
use Rattle.pk_graph.specs.Steps.{tree_value}
use Rattle.pk_graph.specs.Stores.{Stored, storing}
use Rattle.pk_value.specs.Known.{Known}
use Rattle.pk_state.specs.Layouts.{Layout, IsLayout}
use Rattle.pk_state.specs.Facts.{Facts, Stated, AreFactsIf}
use Rattle.pk_state.specs.Members.{Member}
use Rattle.pk_state.specs.Changes.{known_in, with_known, assigned_in}
use Rattle.pk_transfer.specs.Trees.{tree_known, kinds_of}
use Rattle.pk_transfer.specs.Linear.{Linear, variables_of, linear}

-- a state in place of another: of its layout, with these facts
abbrev pub HasFacts : Stated → Option Facts → Stated → Type 0
HasFacts before f after = after ≡ record { layout = before.layout; facts = f }

-- the term, if there is just one
abbrev pub term_of : List ℕ → Option ℕ
term_of [] = None
term_of (p ∷ []) = Some p
term_of (p ∷ (q ∷ ps)) = None

-- Variable x gets the form's number, if it is one term and a constant, else any, in each octagon that is over it: any in one that isn't over each variable that is read.
abbrev pub with_form : Layout → Option Facts → ℕ → Option Linear → List ℕ → Option Facts
with_form y f x None over = assigned_in y f x None (pos 0) []
with_form y f x (Some l) over = assigned_in y f x (term_of l.places) l.constant over

abbrev pub with_known_if : Option Facts → ℕ → Option Known → Option Facts
with_known_if f x None = None
with_known_if f x (Some k) = with_known f x k

-- A variable gets a tree's value.
abbrev pub set_in : Layout → Option Facts → ℕ → TreeOf ℕ → Option Facts
set_in y f x e =
    with_known_if (with_form y f x (linear y.packs (known_in f) e) (variables_of e)) x (tree_known (known_in f) e)

-- A store of a state in which a scalar gets a typed tree's value is one of the state after the assignment.
abbrev pub AssignmentsKeep : Type 0
AssignmentsKeep =
    (y : Layout) (f : Option Facts) (s : Stored) (x : ℕ) (e : TreeOf ℕ) (z : ℤ) → IsLayout y → AreFactsIf y f →
    Member y f s → IsScalar (kinds_of y) x → IsTyped (kinds_of y) e → tree_value storing e s ≡ Ok z
    → Member y (set_in y f x e) (slice_set s x (z ∷ []))
