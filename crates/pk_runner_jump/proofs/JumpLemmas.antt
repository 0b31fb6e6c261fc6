-- Where jumps lead, by cases.
use Rattle.std.proofs.Common.{◌≡◌, ◌+◌, ◌-◌, ◌<◌, ℕ, refl, ap, ◌∙◌, sym, arith, Bool, List, [], ◌∷◌, ◌++◌, length, take, drop, get_or}
use Rattle.std.proofs.lemmas.List.{drop_more, length-drop, take_all}
use Rattle.std.proofs.Math.Seq.{take-append_seam}
use Rattle.std.specs.Prelude.{ℤ, Option, Some, None}
use Rattle.pk_typed.specs.declared.statements.Item.{Item}
use Rattle.pk_typed.specs.declared.statements.Item.TheVariants as items
use Rattle.pk_typed.specs.declared.statements.Declared.{Declared}
use Rattle.pk_typed.specs.declared.statements.Statement.{Statement}
use Rattle.pk_typed.specs.Trees.{ItemTrees, ValueTree, EffectTree, StatementTree}
use Rattle.pk_typed.specs.Views.{declared_tree, statement_tree, item_trees}
use Rattle.pk_meaning.specs.Objects.{Scope}
use Rattle.pk_meaning.specs.Programs.{Program, with_declared}
use Rattle.pk_meaning.specs.Work.{Place, Loop, While, DoWhile, For, Way, Onward, Lost, Ahead, Rest, Again, Work, Go, Test, Turn, Back}
use Rattle.pk_meaning.specs.Steps as steps
use Rattle.pk_meaning.specs.Steps.{Config, Mark, takes, comes, resumed, performed_if}
use Rattle.pk_runner_jump.specs.declared.jumps.Found.{Found}
use Rattle.pk_runner_frame.specs.declared.works.Frame.{Frame}
use Rattle.pk_runner_frame.specs.Frames.{Reading, Held, held, nothing, ahead_at, ahead_of, head, behind, turn, back}
use Rattle.pk_runner_frame.proofs.FrameLemmas.{take_stays}
use Rattle.pk_runner_state.specs.Shown.{outcome}
use Rattle.pk_runner_jump.specs.Marks.{found_in, again}

-- frames above it may go
pub kept_at : (s : Reading) (fs : List Frame) (n : ℕ) → n < length fs → ahead_at (held s (take (n + 1) fs)) n ≡ ahead_at (held s fs) n
kept_at s fs n h = ap ahead_of (take_stays s fs (n + 1) n nothing (omega arith) (omega (arith, h)))

-- ---- from a configuration with other work

pub comes_again : (c : Config) (h e : Place) (l : Loop) (x a : Ahead) (w : Work) (vs : List ℤ) → a ≡ Again h l e x → w ≡ resumed h l e x → outcome (comes c h w vs) c ≡ outcome (takes c (again a) vs) c
comes_again c h e l x a w vs p q = ap (λ (v : Work). outcome (comes c h v vs) c) q ∙ sym (ap (λ (b : Ahead). outcome (takes c (again b) vs) c) p)

pub moved : (s : Reading) (hs : List Held) (o : Option Found) (c : Config) (w : Work) (b : Bool) (vs : List ℤ)
    → outcome (takes (record c { work = w; is_visit = b }) (found_in s hs o Lost) vs) (record c { work = w; is_visit = b }) ≡ outcome (takes c (found_in s hs o Lost) vs) c
moved s hs None c w b vs = refl
moved s hs (Some x) c w b vs = refl

-- ---- frames

-- what stood below is left
pub left_below : {A : Type 0} (fs gs : List A) (x : A) → gs ≡ fs ++ x ∷ [] → take (length fs) gs ≡ fs
left_below fs gs x e = ap (take (length fs)) e ∙ take-append_seam fs (x ∷ [])

-- ---- a loop from the end of its body, by its kind

pub while_is : (h e : Place) (l : Loop) (x a : Ahead) (t : ValueTree) (u : StatementTree) → l ≡ While t u → a ≡ Again h l e x → turn a ≡ resumed h l e x
while_is h e l x a t u q p = ap turn p ∙ (ap (λ (k : Loop). Turn h k e x) q ∙ sym (ap (λ (k : Loop). resumed h k e x) q))

pub do_is : (h e : Place) (l : Loop) (x a : Ahead) (t : ValueTree) (u : StatementTree) → l ≡ DoWhile u t → a ≡ Again h l e x → Test t (head a) (behind a) ≡ resumed h l e x
do_is h e l x a t u q p =
    ap (λ (b : Ahead). Test t (head b) (behind b)) p ∙ (ap (λ (k : Loop). Test t (Onward h (Turn h k e x)) (Onward e (Go x))) q ∙ sym (ap (λ (k : Loop). resumed h k e x) q))

pub for_is : (h e : Place) (l : Loop) (x a : Ahead) (t : Option ValueTree) (o r : Option EffectTree) (u : StatementTree) → l ≡ For t o u → o ≡ r → a ≡ Again h l e x → performed_if r (back a) ≡ resumed h l e x
for_is h e l x a t o r u q f p =
    ap (λ (b : Ahead). performed_if r (back b)) p
    ∙ (sym (ap (λ (v : Option EffectTree). performed_if v (Back h l e x)) f)
    ∙ (ap (λ (k : Loop). performed_if o (Back h k e x)) q ∙ sym (ap (λ (k : Loop). resumed h k e x) q)))

-- ---- items

-- those behind a place, as a part of a list is told
pub rest_of : {A : Type 0} (xs : List A) (n : ℕ) → take (length xs - n) (drop n xs) ≡ drop n xs
rest_of xs n = take_all (length xs - n) (drop n xs) (let e : length (drop n xs) ≡ length xs - n = length-drop n xs in omega (arith, e))

drop_next : (is : List Item) (n : ℕ) (i j : Item) → n < length is → i ≡ get_or is n i → i ≡ j → item_trees (drop n is) ≡ item_trees (j ∷ drop (n + 1) is)
drop_next is n i j h e f = ap item_trees (drop_more is n i h) ∙ ap (λ (k : Item). item_trees (k ∷ drop (n + 1) is)) (sym e ∙ f)

pub after_declared : (p : Program) (k : ℕ) (m : Mark) (xs ys : Scope) (is : List Item) (n : ℕ) (i : Item) (d : Declared) (a : Ahead) (o q : Way) → n < length is → i ≡ get_or is n i → i
    ≡ items.Declared d → ys ≡ with_declared p k (declared_tree d) xs
    → steps.found_in p k m xs (item_trees (drop n is)) a o ≡ q → steps.found_in p k m ys (item_trees (drop (n + 1) is)) a o ≡ q
after_declared p k m xs ys is n i d a o q h e f g inv =
    ap (λ (zs : Scope). steps.found_in p k m zs (item_trees (drop (n + 1) is)) a o) g
    ∙ (sym (ap (λ (ts : ItemTrees). steps.found_in p k m xs ts a o) (drop_next is n i (items.Declared d) h e f)) ∙ inv)

pub after_statement : (p : Program) (k : ℕ) (m : Mark) (xs : Scope) (is : List Item) (n : ℕ) (i : Item) (t : Statement) (a : Ahead) (o q w : Way) → n < length is → i ≡ get_or is n i → i ≡ items.Statement t
    → w ≡ steps.found p k m xs (statement_tree t) (Rest xs (item_trees (drop (n + 1) is)) a) (steps.found_in p k m xs (item_trees (drop (n + 1) is)) a o)
    → steps.found_in p k m xs (item_trees (drop n is)) a o ≡ q → w ≡ q
after_statement p k m xs is n i t a o q w h e f g inv =
    g ∙ (sym (ap (λ (ts : ItemTrees). steps.found_in p k m xs ts a o) (drop_next is n i (items.Statement t) h e f)) ∙ inv)
