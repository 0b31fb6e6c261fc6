-- The graph follows the program at marks, and at jumps to them.
use Rattle.std.proofs.Common.{ℕ, ◌+◌, arith, List, [], ◌∷◌, Bool, true, false, ℤ}
use Rattle.pk_ctypes.specs.declared.places.Pos.{Pos}
use Rattle.pk_ctypes.specs.declared.types.IntType.{IntType}
use Rattle.pk_typed.specs.Trees.{ValueTree, StatementTree}
use Rattle.pk_typed.specs.Trees as tree
use Rattle.pk_meaning.specs.Work as work
use Rattle.pk_meaning.specs.Work.{Place, Ahead}
use Rattle.pk_meaning.specs.Steps.{place}
use Rattle.pk_visits.proofs.Settled.Trees.{Settles}
use Rattle.pk_visits.proofs.Follow.{still}
use Rattle.pk_visits.proofs.Steps.Going.{IsFollowed, jump}
use Rattle.pk_visits.proofs.Steps.Marked.{label_laid, case_laid, default_laid}
use Rattle.pk_visits.proofs.Switches.{switch_laid}
use Rattle.pk_visits.proofs.Steps.Choices.{choose_test, choose_default, choose_none, goto_by}
use Rattle.pk_visits.proofs.Steps.Found.{gone_laid, case_found, default_found}

pub label_followed : (q : Pos) (i : ℕ) (r : StatementTree) (a : Ahead) → IsFollowed (work.Do (tree.label q i r) a)
label_followed q i r a g proper chosen p m k h vs s b x hs l e same f =
    let y = label_laid g proper k h x q i r a p hs l in jump g chosen p (x.labels + i) m k (place q h.scope) (work.Do r a) vs s x hs y.0 y.1 y.2 e same f

pub case_followed : (q : Pos) (i : ℕ) (r : StatementTree) (a : Ahead) → IsFollowed (work.Do (tree.case q i r) a)
case_followed q i r a g proper chosen p m k h vs s b x hs l e same f =
    let y = case_laid g proper k h x q i r a p hs l in jump g chosen p (x.cases + i) m k (place q h.scope) (work.Do r a) vs s x hs y.0 y.1 y.2 e same f

pub default_followed : (q : Pos) (r : StatementTree) (a : Ahead) → IsFollowed (work.Do (tree.default q r) a)
default_followed q r a g proper chosen p m k h vs s b x hs l e same f =
    let y = default_laid g proper k h x q r a p hs l in jump g chosen p x.otherwise m k (place q h.scope) (work.Do r a) vs s x hs y.0 y.1 y.2 e same f

pub goto_followed : (q : Pos) (i : ℕ) (a : Ahead) → IsFollowed (work.Do (tree.goto q i) a)
unfolding Settles
goto_followed q i a g proper chosen p m k h vs s b x hs l e same f = goto_by g chosen p m k h vs s b x hs q i a l (gone_laid g proper k h x i a _ hs l.8 l.9) e same f

pub switch_followed : (q : Pos) (t : IntType) (v : ValueTree) (zs : List ℤ) (has : Bool) (r : StatementTree) (a : Ahead) → IsFollowed (work.Do (tree.switch q t v zs has r) a)
switch_followed q t v zs has r a g proper chosen p m k h vs s b x hs l e same f =
    let j = place q h.scope in still g chosen p m k j (work.Evaluate v (work.Convert t (work.Keep (work.Choose t zs 0 has r j a)))) vs s x hs (switch_laid g proper k h x q t v zs has r a p hs l) e same f

pub choose_followed : (t : IntType) (zs : List ℤ) (i : ℕ) (has : Bool) (r : StatementTree) (j : Place) (a : Ahead) → IsFollowed (work.Choose t zs i has r j a)
choose_followed t zs i has r j a g proper chosen p m k h [] s b x [] l e same f = absurd l
choose_followed t zs i has r j a g proper chosen p m k h [] s b x (c ∷ hs) l e same f = absurd e
choose_followed t zs i has r j a g proper chosen p m k h (v ∷ vs) s b x [] l e same f = absurd l
choose_followed t (z ∷ zs) i has r j a g proper chosen p m k h (v ∷ vs) s b x (c ∷ hs) l e same f =
    choose_test g chosen p m k h j t z zs i has r a v vs s b x c hs l (case_found g proper k h j x t (z ∷ zs) i i has r a p c hs l (omega (arith, l.8))) e same f
choose_followed t [] i true r j a g proper chosen p m k h (v ∷ vs) s b x (c ∷ hs) l e same f =
    choose_default g chosen p m k h j t i r a v vs s b x c hs l (default_found g proper k h j x t [] i r a p c hs l) e same f
choose_followed t [] i false r j a g proper chosen p m k h (v ∷ vs) s b x (c ∷ hs) l e same f = choose_none g chosen p m k h j t i r a v vs s b x c hs l e same f
