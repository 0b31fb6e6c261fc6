-- Statements whose labels aren't repeated and whose cases aren't out of place.
use Rattle.std.proofs.Common.{◌≡◌, ℕ, ◌+◌, suc, Bool, true, false, List, [], ◌∷◌, Option, Some, None, length, refl, ap, sym, subst, ◌∙◌, arith, length-append, nat_eq}
use Rattle.std.proofs.lemmas.Option.{none-some}
use Rattle.std.proofs.lemmas.Bool.{false≢true}
use Rattle.std.specs.Prelude.{ℤ, unwrap_or, ◌||◌}
use Rattle.std.specs.Option.{option_map}
use Rattle.pk_ctypes.specs.declared.places.Pos.{Pos}
use Rattle.pk_ctypes.specs.declared.types.IntType.{IntType}
use Rattle.pk_ctypes.specs.Conversions.{promoted}
use Rattle.pk_ctypes.specs.Types.{wrapped}
use Rattle.pk_ast.specs.Places.{first_place_of}
use Rattle.pk_ast.specs.Trees as ast
use Rattle.pk_ast.specs.Trees.{declaration, expression, StatementTree, ItemTrees, no_items, declaration_then, statement_then}
use Rattle.pk_typed.specs.Trees as tree
use Rattle.pk_typed.specs.Trees.{ValueTree, EffectTree, DeclaredTree}
use Rattle.pk_type_scope.specs.declared.declarations.Typing.{Typing}
use Rattle.pk_type_scope.specs.declared.declarations.Typing.TheVariants.{Void, Integer, Unknown}
use Rattle.pk_type_scope.specs.Scopes.{spelled}
use Rattle.pk_type_expression.specs.Typed.{of_both}
use Rattle.pk_type_expression.specs.Types.{type_of}
use Rattle.pk_type_declaration.specs.Constants.{evaluated, number_in}
use Rattle.pk_type_declaration.specs.Statics.{after_block_declaration, block_declaration_at}
use Rattle.pk_type_declaration.specs.Walks.{here, after_value, value_at, effect_at}
use Rattle.pk_type_declaration.specs.Rules as declarations
use Rattle.pk_type_jump.specs.declared.labels.Label.{Label}
use Rattle.pk_type_jump.specs.declared.labels.Within.{Within}
use Rattle.pk_type_jump.specs.Labels.{Listed, with_label, with_declaration, inside, listed, listed_items}
use Rattle.pk_type_jump.specs.Jumps as jump
use Rattle.pk_type_jump.specs.Jumps.{Around, Jumped, at_if, misplaced_if, is_out_of_place, with_default_flag, looped, switched, within_next, jumped, jumped_items}
use Rattle.pk_type_statement.specs.declared.statements.Case.{Case}
use Rattle.pk_type_statement.specs.Statements as statements
use Rattle.pk_type_statement.specs.Statements.{on, with_case, with_default, in_switch, after_head, after, after_items}
use Rattle.pk_type_statement.specs.Trees.{numbered, label_at, of_three, case_numbers, ended_as, ended, switch_of, optional_value_at, HeadTree, head_at, for_tree, declared_all, typed, typed_items}
use Rattle.pk_type_statement.specs.Rules as statement_rules
use Rattle.pk_type_statement.proofs.KeepLemmas.{kept, kept_block_declaration, kept_head}
use Rattle.pk_meaning.specs.Steps as mark
use Rattle.pk_meaning.specs.Steps.{Mark, labelled, otherwise}
use Rattle.pk_welltyped.specs.Marks.{one_if, times, times_in, HasCases, HaveCases}
use Rattle.pk_type_laws.proofs.Accepted.Jumps.{before, items_before, none_after}
use Rattle.pk_type_laws.proofs.Accepted.Statements.{P}
use Rattle.pk_type_laws.proofs.Marked.Counts.{Counts, none, both, one}
use Rattle.pk_type_laws.proofs.Marked.Listed.{Stays, stays, items_stay, its_label}

-- ---- defaults: the walk of statements knows them as that of jumps does

gone_flag : {b : Bool} (l : Option Label) (a : Around) (at : Pos) (j : Jumped) → b ≡ j.has_default → b ≡ (jump.gone l a at j).has_default
gone_flag None a at j h = h
gone_flag (Some l) a at j h = h

mutual
  unfolding after after_items jumped jumped_items

  flags : (r : Typing) (text : List ℕ) (ls : List ℕ → Option Label) (a : Around) (j : Jumped) (p : P) (s : StatementTree) → p.has_default ≡ j.has_default → (after statement_rules.noting r p s).has_default ≡ (jumped text ls a j s).has_default
  flags r text ls a j p (ast.block opened items closed) h = item_flags r text ls a j (statements.inside p) items h
  flags r text ls a j p (ast.empty at) h = h
  flags r text ls a j p (ast.expression_statement e) h = h
  flags r text ls a j p (ast.label x s) h = flags r text ls a j p s h
  flags r text ls a j p (ast.case at e s) h = flags r text ls a (misplaced_if (is_out_of_place a) at j) (with_case declarations.noting at e p) s h
  flags r text ls a j p (ast.default at s) h = flags r text ls a (jump.with_default a at j) (with_default p) s refl
  flags r text ls a j p (ast.if_then at e s) h = flags r text ls a j (on (after_value declarations.noting e) p) s h
  flags r text ls a j p (ast.if_else at e s t) h =
      let q = on (after_value declarations.noting e) p in flags r text ls a (jumped text ls a j s) (after statement_rules.noting r q s) t (flags r text ls a j q s h)
  flags r text ls a j p (ast.switch at e s) h = h
  flags r text ls a j p (ast.while at e s) h = flags r text ls (looped a) j (on (after_value declarations.noting e) p) s h
  flags r text ls a j p (ast.do_while at s e) h = flags r text ls (looped a) j p s h
  flags r text ls a j p (ast.for_loop at (declaration d) test step s) h = flags r text ls (looped (within_next j a)) (jump.with_declaration j) (on (after_head declarations.noting (declaration d) test step) (statements.inside p)) s h
  flags r text ls a j p (ast.for_loop at (expression e) test step s) h = flags r text ls (looped a) j (on (after_head declarations.noting (expression e) test step) (statements.inside p)) s h
  flags r text ls a j p (ast.goto at x) h = gone_flag (ls (spelled text x)) a x.at j h
  flags r text ls a j p (ast.continue at) h = h
  flags r text ls a j p (ast.break at) h = h
  flags r text ls a j p (ast.return at e) h = h

  item_flags : (r : Typing) (text : List ℕ) (ls : List ℕ → Option Label) (a : Around) (j : Jumped) (p : P) (is : ItemTrees) → p.has_default ≡ j.has_default → (after_items statement_rules.noting r p is).has_default ≡ (jumped_items text ls a j is).has_default
  item_flags r text ls a j p no_items h = h
  item_flags r text ls a j p (declaration_then x d is) h = item_flags r text ls (within_next j a) (jump.with_declaration j) (on (after_block_declaration declarations.noting x d) p) is h
  item_flags r text ls a j p (statement_then s is) h = item_flags r text ls a (jumped text ls a j s) (after statement_rules.noting r p s) is (flags r text ls a j p s h)

-- ---- what holds of a statement's tree

-- between a and b labels, between c and d cases; a default before, and behind
pub record Marked (a b c d : ℕ) (x y : Bool) (t : tree.StatementTree) : Type 0 where
  pub labels : (n : ℕ) → Counts a b n (times (labelled n) t)
  pub cases : (n : ℕ) → Counts c d n (times (mark.numbered n) t)
  pub default : one_if x + times otherwise t ≡ one_if y
  pub all : HasCases t

pub record ItemsMarked (a b c d : ℕ) (x y : Bool) (t : tree.ItemTrees) : Type 0 where
  pub labels : (n : ℕ) → Counts a b n (times_in (labelled n) t)
  pub cases : (n : ℕ) → Counts c d n (times_in (mark.numbered n) t)
  pub default : one_if x + times_in otherwise t ≡ one_if y
  pub all : HaveCases t

abbrev pub MarkedIf : (a b c d : ℕ) (x y : Bool) → Option tree.StatementTree → Type 0
MarkedIf a b c d x y None = Unit {0}
MarkedIf a b c d x y (Some t) = Marked a b c d x y t

abbrev pub ItemsMarkedIf : (a b c d : ℕ) (x y : Bool) → Option tree.ItemTrees → Type 0
ItemsMarkedIf a b c d x y None = Unit {0}
ItemsMarkedIf a b c d x y (Some t) = ItemsMarked a b c d x y t

none_more : (a b n k : ℕ) → Counts a b n k → Counts a b n (0 + k)
none_more a b n k h = let same : k ≡ 0 + k = omega arith in subst (Counts a b n) same h

no_marks : (a c : ℕ) (x : Bool) (t : tree.StatementTree) → ((m : Mark) → times m t ≡ 0) → HasCases t → Marked a a c c x x t
no_marks a c x t h k = record {
  labels = λ n. subst (Counts a a n) (sym (h (labelled n))) (none a n);
  cases = λ n. subst (Counts c c n) (sym (h (mark.numbered n))) (none c n);
  default = omega (h otherwise, arith);
  all = k;
}

effect_marked : (a c : ℕ) (x : Bool) (p : Pos) (e : Option EffectTree) → MarkedIf a a c c x x (option_map (tree.effect p) e)
unfolding times HasCases
effect_marked a c x p None = tt
effect_marked a c x p (Some e) = no_marks a c x (tree.effect p e) (λ m. refl) tt

return_marked : (a c : ℕ) (x : Bool) (p : Pos) (e : Option (Option ValueTree)) → MarkedIf a a c c x x (option_map (tree.return p) e)
unfolding times HasCases
return_marked a c x p None = tt
return_marked a c x p (Some e) = no_marks a c x (tree.return p e) (λ m. refl) tt

goto_marked : (a c : ℕ) (x : Bool) (p : Pos) (l : Option ℕ) → MarkedIf a a c c x x (option_map (tree.goto p) l)
unfolding times HasCases
goto_marked a c x p None = tt
goto_marked a c x p (Some l) = no_marks a c x (tree.goto p l) (λ m. refl) tt

block_marked : (a b c d : ℕ) (x y : Bool) (p : Pos) (is : Option tree.ItemTrees) → ItemsMarkedIf a b c d x y is → MarkedIf a b c d x y (option_map (tree.block p) is)
unfolding times HasCases
block_marked a b c d x y p None h = tt
block_marked a b c d x y p (Some is) h = record { labels = h.labels; cases = h.cases; default = h.default; all = h.all }

label_marked : (a b c d : ℕ) (x y : Bool) (p : Pos) (o : Option Label) (w : Within) (s : Option tree.StatementTree) → o ≡ Some (record { number = a; within = w }) → MarkedIf (a + 1) b c d x y s → MarkedIf a b c d x y (of_both (tree.label p) (numbered o) s)
unfolding times HasCases
label_marked a b c d x y p None w s is h = absurd (none-some (record { number = a; within = w }) is)
label_marked a b c d x y p (Some l) w None is h = tt
label_marked a b c d x y p (Some l) w (Some s) is h =
    let same : a ≡ l.number = ap (λ (o : Option Label). (unwrap_or o l).number) (sym is) in
    record {
      labels = λ n. subst (λ (i : ℕ). Counts a b n (one_if (nat_eq n i) + times (labelled n) s)) same (both a (a + 1) b n (one_if (nat_eq n a)) (times (labelled n) s) (one a n) (h.labels n));
      cases = λ n. none_more c d n (times (mark.numbered n) s) (h.cases n);
      default = omega (h.default, arith);
      all = h.all;
    }

case_marked : (a b c d : ℕ) (x y : Bool) (p : Pos) (s : Option tree.StatementTree) → MarkedIf a b (c + 1) d x y s → MarkedIf a b c d x y (option_map (tree.case p c) s)
unfolding times HasCases
case_marked a b c d x y p None h = tt
case_marked a b c d x y p (Some s) h = record {
  labels = λ n. none_more a b n (times (labelled n) s) (h.labels n);
  cases = λ n. both c (c + 1) d n (one_if (nat_eq n c)) (times (mark.numbered n) s) (one c n) (h.cases n);
  default = omega (h.default, arith);
  all = h.all;
}

default_marked : (a b c d : ℕ) (x y : Bool) (p : Pos) (s : Option tree.StatementTree) → x ≡ false → MarkedIf a b c d true y s → MarkedIf a b c d x y (option_map (tree.default p) s)
unfolding times HasCases
default_marked a b c d x y p None e h = tt
default_marked a b c d x y p (Some s) e h = record { labels = λ n. none_more a b n (times (labelled n) s) (h.labels n); cases = λ n. none_more c d n (times (mark.numbered n) s) (h.cases n); default = omega (ap one_if e, h.default, arith); all = h.all }

then_marked : (a b c d : ℕ) (x y : Bool) (p : Pos) (e : Option ValueTree) (s : Option tree.StatementTree) → MarkedIf a b c d x y s → MarkedIf a b c d x y (of_both (tree.if_then p) e s)
unfolding times HasCases
then_marked a b c d x y p None s h = tt
then_marked a b c d x y p (Some e) None h = tt
then_marked a b c d x y p (Some e) (Some s) h = record { labels = h.labels; cases = h.cases; default = h.default; all = h.all }

while_marked : (a b c d : ℕ) (x y : Bool) (p : Pos) (e : Option ValueTree) (s : Option tree.StatementTree) → MarkedIf a b c d x y s → MarkedIf a b c d x y (of_both (tree.while p) e s)
unfolding times HasCases
while_marked a b c d x y p None s h = tt
while_marked a b c d x y p (Some e) None h = tt
while_marked a b c d x y p (Some e) (Some s) h = record { labels = h.labels; cases = h.cases; default = h.default; all = h.all }

do_marked : (a b c d : ℕ) (x y : Bool) (p : Pos) (s : Option tree.StatementTree) (e : Option ValueTree) → MarkedIf a b c d x y s → MarkedIf a b c d x y (of_both (tree.do_while p) s e)
unfolding times HasCases
do_marked a b c d x y p None e h = tt
do_marked a b c d x y p (Some s) None h = tt
do_marked a b c d x y p (Some s) (Some e) h = record { labels = h.labels; cases = h.cases; default = h.default; all = h.all }

for_marked : (a b c d : ℕ) (x y : Bool) (p : Pos) (e : Option HeadTree) (s : Option tree.StatementTree) → MarkedIf a b c d x y s → MarkedIf a b c d x y (of_both (for_tree p) e s)
unfolding times HasCases
for_marked a b c d x y p None s h = tt
for_marked a b c d x y p (Some e) None h = tt
for_marked a b c d x y p (Some e) (Some s) h = record { labels = h.labels; cases = h.cases; default = h.default; all = h.all }

else_marked : (a b c d e f : ℕ) (x y z : Bool) (p : Pos) (v : Option ValueTree) (s t : Option tree.StatementTree) → MarkedIf a b d e x y s → MarkedIf b c e f y z t → MarkedIf a c d f x z (of_three (tree.if_else p) v s t)
unfolding times HasCases
else_marked a b c d e f x y z p None s t h k = tt
else_marked a b c d e f x y z p (Some v) None t h k = tt
else_marked a b c d e f x y z p (Some v) (Some s) None h k = tt
else_marked a b c d e f x y z p (Some v) (Some s) (Some t) h k = record {
  labels = λ n. both a b c n (times (labelled n) s) (times (labelled n) t) (h.labels n) (k.labels n);
  cases = λ n. both d e f n (times (mark.numbered n) s) (times (mark.numbered n) t) (h.cases n) (k.cases n);
  default = omega (h.default, k.default, arith);
  all = (h.all, k.all);
}

cases_many : (t : IntType) (cs : List Case) (zs : List ℤ) → case_numbers t cs ≡ Some zs → length zs ≡ length cs
cases_many t [] zs h = ap (λ (o : Option (List ℤ)). length (unwrap_or o zs)) (sym h)
cases_many t (c ∷ cs) zs h = both_many c.value (case_numbers t cs) (λ ns e. cases_many t cs ns e) h
  where
    both_many : (v : Option ℤ) (o : Option (List ℤ)) → ((ns : List ℤ) → o ≡ Some ns → length ns ≡ length cs) → of_both (λ n ns. n ∷ ns) (option_map (wrapped t) v) o ≡ Some zs → length zs ≡ length (c ∷ cs)
    both_many None o f e = absurd (none-some zs e)
    both_many (Some v) None f e = absurd (none-some zs e)
    both_many (Some v) (Some ns) f e = ap (λ (o : Option (List ℤ)). length (unwrap_or o zs)) (sym e) ∙ ap suc (f ns refl)

switch_marked : (a b c : ℕ) (x : Bool) (p : Pos) (v : Option ValueTree) (ty : Typing) (q : P) (s : Option tree.StatementTree) → MarkedIf a b 0 (length q.cases) false q.has_default s → MarkedIf a b c c x x (of_three (switch_of p) v (ended ty q) s)
unfolding times HasCases
switch_marked a b c x p None ty q s h = tt
switch_marked a b c x p (Some v) Void q s h = tt
switch_marked a b c x p (Some v) Unknown q s h = tt
switch_marked a b c x p (Some v) (Integer t) q s h = known (case_numbers (promoted t) q.cases) refl s h
  where
    known : (o : Option (List ℤ)) → case_numbers (promoted t) q.cases ≡ o → (s : Option tree.StatementTree) → MarkedIf a b 0 (length q.cases) false q.has_default s → MarkedIf a b c c x x (of_three (switch_of p) (Some v) (option_map (ended_as (promoted t) q.has_default) o) s)
    known None is s h = tt
    known (Some zs) is None h = tt
    known (Some zs) is (Some s) h =
        let many = cases_many (promoted t) q.cases zs is in
        record {
          labels = h.labels;
          cases = λ n. none c n;
          default = omega arith;
          all = (record { each = λ i l. (h.cases i).inside (omega arith) (omega (l, many, arith)); default = omega (h.default, arith) }, h.all);
        }

-- ---- items

declared_first : (a b c d : ℕ) (x y : Bool) (ds : List DeclaredTree) (is : tree.ItemTrees) → ItemsMarked a b c d x y is → ItemsMarked a b c d x y (declared_all ds is)
unfolding times_in HaveCases
declared_first a b c d x y [] is h = h
declared_first a b c d x y (v ∷ ds) is h = let k = declared_first a b c d x y ds is h in record { labels = k.labels; cases = k.cases; default = k.default; all = k.all }

declared_marked : (a b c d : ℕ) (x y : Bool) (ds : Option (List DeclaredTree)) (is : Option tree.ItemTrees) → ItemsMarkedIf a b c d x y is → ItemsMarkedIf a b c d x y (of_both declared_all ds is)
declared_marked a b c d x y None is h = tt
declared_marked a b c d x y (Some ds) None h = tt
declared_marked a b c d x y (Some ds) (Some is) h = declared_first a b c d x y ds is h

items_marked : (a b c d e f : ℕ) (x y z : Bool) (s : Option tree.StatementTree) (is : Option tree.ItemTrees) → MarkedIf a b d e x y s → ItemsMarkedIf b c e f y z is → ItemsMarkedIf a c d f x z (of_both tree.statement_before s is)
unfolding times_in HaveCases
items_marked a b c d e f x y z None is h k = tt
items_marked a b c d e f x y z (Some s) None h k = tt
items_marked a b c d e f x y z (Some s) (Some is) h k = record {
  labels = λ n. both a b c n (times (labelled n) s) (times_in (labelled n) is) (h.labels n) (k.labels n);
  cases = λ n. both d e f n (times (mark.numbered n) s) (times_in (mark.numbered n) is) (h.cases n) (k.cases n);
  default = omega (h.default, k.default, arith);
  all = (h.all, k.all);
}

nothing_marked : (a c : ℕ) (x : Bool) → ItemsMarkedIf a a c c x x (Some tree.no_items)
unfolding times_in HaveCases
nothing_marked a c x = record { labels = λ n. none a n; cases = λ n. none c n; default = omega arith; all = tt }

-- ---- the walk

or_second : (a b : Bool) → (a || b) ≡ false → b ≡ false
or_second true b h = absurd (false≢true (sym h))
or_second false b h = h

not_at : (b : Bool) (at : Pos) → at_if b at ≡ [] → b ≡ false
not_at true at h = absurd (cc)
not_at false at h = refl

-- the labels that are listed are those of the function
abbrev Final : (List ℕ → Option Label) → Listed → Type 0
Final f l = (q : List ℕ) (x : Label) → l.labels q ≡ Some x → f q ≡ Some x

final_before : (f : List ℕ → Option Label) (l m : Listed) → Stays l m → m.repeated ≡ [] → Final f m → Final f l
final_before f l m s r h q x e = h q x (s.keeps r q x e)

mutual
  unfolding after after_items typed typed_items listed listed_items jumped jumped_items times times_in HasCases HaveCases

  walk : (text : List ℕ) (f : List ℕ → Option Label) (r : Typing) (a : Around) (j : Jumped) (w : Within) (l : Listed) (p : P) (s : StatementTree) → p.walked.scoping.text ≡ text → (listed text w l s).repeated ≡ [] → Final f (listed text w l s)
      → p.has_default ≡ j.has_default → (jumped text f a j s).misplaced ≡ []
      → MarkedIf l.count (listed text w l s).count (length p.cases) (length (after statement_rules.noting r p s).cases) p.has_default (after statement_rules.noting r p s).has_default (typed statement_rules.noting r f p s)
  walk text f r a j w l p (ast.block opened items closed) t e h d k =
      block_marked l.count (listed_items text w l items).count (length p.cases) (length (after_items statement_rules.noting r (statements.inside p) items).cases) p.has_default (after_items statement_rules.noting r (statements.inside p) items).has_default opened
      (typed_items statement_rules.noting r f (statements.inside p) items) (walk_items text f r a j w l (statements.inside p) items t e h d k)
  walk text f r a j w l p (ast.empty at) t e h d k = no_marks l.count (length p.cases) p.has_default (tree.empty at) (λ m. refl) tt
  walk text f r a j w l p (ast.expression_statement x) t e h d k = effect_marked l.count (length p.cases) p.has_default (first_place_of x) (effect_at p.walked x)
  walk text f r a j w l p (ast.label x s) t e h d k =
      let m = with_label text w x l in
      let its : f (spelled p.walked.scoping.text x) ≡ Some (record { number = l.count; within = w }) = ap (λ (q : List ℕ). f (spelled q x)) t ∙ h (spelled text x) _ ((stays text w m s).keeps e (spelled text x) _ (its_label text w x l)) in
      label_marked l.count (listed text w m s).count (length p.cases) (length (after statement_rules.noting r p s).cases) p.has_default (after statement_rules.noting r p s).has_default x.at (f (spelled p.walked.scoping.text x)) w (typed statement_rules.noting r f p s) its
      (walk text f r a j w m p s t e h d k)
  walk text f r a j w l p (ast.case at x s) t e h d k =
      let q = with_case declarations.noting at x p in
      let many : length q.cases ≡ length p.cases + 1 = length-append p.cases (record { at = at; value = number_in (evaluated p.walked x) } ∷ []) in
      case_marked l.count (listed text w l s).count (length p.cases) (length (after statement_rules.noting r q s).cases) p.has_default (after statement_rules.noting r q s).has_default at (typed statement_rules.noting r f q s)
      (subst (λ (c : ℕ). MarkedIf l.count (listed text w l s).count c (length (after statement_rules.noting r q s).cases) p.has_default (after statement_rules.noting r q s).has_default (typed statement_rules.noting r f q s)) many
      (walk text f r a (misplaced_if (is_out_of_place a) at j) w l q s t e h d k))
  walk text f r a j w l p (ast.default at s) t e h d k =
      let q = with_default p in
      let placed = none_after j.misplaced (at_if (is_out_of_place a || j.has_default) at) (before text f a (jump.with_default a at j) s k) in
      default_marked l.count (listed text w l s).count (length p.cases) (length (after statement_rules.noting r q s).cases) p.has_default (after statement_rules.noting r q s).has_default at (typed statement_rules.noting r f q s)
      (d ∙ or_second (is_out_of_place a) j.has_default (not_at (is_out_of_place a || j.has_default) at placed)) (walk text f r a (jump.with_default a at j) w l q s t e h refl k)
  walk text f r a j w l p (ast.if_then at x s) t e h d k =
      let q = on (after_value declarations.noting x) p in
      then_marked l.count (listed text w l s).count (length p.cases) (length (after statement_rules.noting r q s).cases) p.has_default (after statement_rules.noting r q s).has_default at (value_at p.walked x) (typed statement_rules.noting r f q s) (walk text f r a j w l q s t e h d k)
  walk text f r a j w l p (ast.if_else at x s o) t e h d k =
      let q = on (after_value declarations.noting x) p in
      let v = after statement_rules.noting r q s in
      let m = listed text w l s in
      let i = jumped text f a j s in
      let rest = stays text w m o in
      else_marked l.count m.count (listed text w m o).count (length p.cases) (length v.cases) (length (after statement_rules.noting r v o).cases) p.has_default v.has_default (after statement_rules.noting r v o).has_default at (value_at p.walked x) (typed statement_rules.noting r f q s) (typed statement_rules.noting r f v o)
      (walk text f r a j w l q s t (rest.repeated e) (final_before f m (listed text w m o) rest e h) d (before text f a i o k))
      (walk text f r a i w m v o ((kept statement_rules.noting r q s).text ∙ t) e h (flags r text f a j q s d) k)
  walk text f r a j w l p (ast.switch at x s) t e h d k =
      let q = in_switch (on (after_value declarations.noting x) p) in
      let v = after statement_rules.noting r q s in
      switch_marked l.count (listed text w l s).count (length p.cases) p.has_default at (value_at p.walked x) (type_of (here p.walked) x) v (typed statement_rules.noting r f q s) (walk text f r (switched a) (with_default_flag false j) w l q s t e h refl k)
  walk text f r a j w l p (ast.while at x s) t e h d k =
      let q = on (after_value declarations.noting x) p in
      while_marked l.count (listed text w l s).count (length p.cases) (length (after statement_rules.noting r q s).cases) p.has_default (after statement_rules.noting r q s).has_default at (value_at p.walked x) (typed statement_rules.noting r f q s) (walk text f r (looped a) j w l q s t e h d k)
  walk text f r a j w l p (ast.do_while at s x) t e h d k =
      do_marked l.count (listed text w l s).count (length p.cases) (length (after statement_rules.noting r p s).cases) p.has_default (after statement_rules.noting r p s).has_default at (typed statement_rules.noting r f p s) (value_at (after statement_rules.noting r p s).walked x) (walk text f r (looped a) j w l p s t e h d k)
  walk text f r a j w l p (ast.for_loop at (declaration x) test third s) t e h d k =
      let i = statements.inside p in
      let q = on (after_head declarations.noting (declaration x) test third) i in
      let v = inside l.declarations w in
      let m = with_declaration l in
      for_marked l.count (listed text v m s).count (length p.cases) (length (after statement_rules.noting r q s).cases) p.has_default (after statement_rules.noting r q s).has_default at (head_at declarations.noting (declaration x) test third i.walked) (typed statement_rules.noting r f q s)
      (walk text f r (looped (within_next j a)) (jump.with_declaration j) v m q s ((kept_head declarations.noting (declaration x) test third i.walked).text ∙ t) e h d k)
  walk text f r a j w l p (ast.for_loop at (expression x) test third s) t e h d k =
      let i = statements.inside p in
      let q = on (after_head declarations.noting (expression x) test third) i in
      for_marked l.count (listed text w l s).count (length p.cases) (length (after statement_rules.noting r q s).cases) p.has_default (after statement_rules.noting r q s).has_default at (head_at declarations.noting (expression x) test third i.walked) (typed statement_rules.noting r f q s)
      (walk text f r (looped a) j w l q s ((kept_head declarations.noting (expression x) test third i.walked).text ∙ t) e h d k)
  walk text f r a j w l p (ast.goto at x) t e h d k = goto_marked l.count (length p.cases) p.has_default at (label_at f p.walked x)
  walk text f r a j w l p (ast.continue at) t e h d k = no_marks l.count (length p.cases) p.has_default (tree.continue at) (λ m. refl) tt
  walk text f r a j w l p (ast.break at) t e h d k = no_marks l.count (length p.cases) p.has_default (tree.break at) (λ m. refl) tt
  walk text f r a j w l p (ast.return at x) t e h d k = return_marked l.count (length p.cases) p.has_default at (optional_value_at p.walked x)

  pub walk_items : (text : List ℕ) (f : List ℕ → Option Label) (r : Typing) (a : Around) (j : Jumped) (w : Within) (l : Listed) (p : P) (is : ItemTrees) → p.walked.scoping.text ≡ text → (listed_items text w l is).repeated ≡ [] → Final f (listed_items text w l is)
      → p.has_default ≡ j.has_default → (jumped_items text f a j is).misplaced ≡ []
      → ItemsMarkedIf l.count (listed_items text w l is).count (length p.cases) (length (after_items statement_rules.noting r p is).cases) p.has_default (after_items statement_rules.noting r p is).has_default (typed_items statement_rules.noting r f p is)
  walk_items text f r a j w l p no_items t e h d k = nothing_marked l.count (length p.cases) p.has_default
  walk_items text f r a j w l p (declaration_then z x is) t e h d k =
      let q = on (after_block_declaration declarations.noting z x) p in
      let v = inside l.declarations w in
      let m = with_declaration l in
      declared_marked l.count (listed_items text v m is).count (length p.cases) (length (after_items statement_rules.noting r q is).cases) p.has_default (after_items statement_rules.noting r q is).has_default (block_declaration_at declarations.noting z x p.walked) (typed_items statement_rules.noting r f q is)
      (walk_items text f r (within_next j a) (jump.with_declaration j) v m q is ((kept_block_declaration declarations.noting z x p.walked).text ∙ t) e h d k)
  walk_items text f r a j w l p (statement_then s is) t e h d k =
      let q = after statement_rules.noting r p s in
      let m = listed text w l s in
      let i = jumped text f a j s in
      let rest = items_stay text w m is in
      items_marked l.count m.count (listed_items text w m is).count (length p.cases) (length q.cases) (length (after_items statement_rules.noting r q is).cases) p.has_default q.has_default (after_items statement_rules.noting r q is).has_default (typed statement_rules.noting r f p s) (typed_items statement_rules.noting r f q is)
      (walk text f r a j w l p s t (rest.repeated e) (final_before f m (listed_items text w m is) rest e h) d (items_before text f a i is k))
      (walk_items text f r a i w m q is ((kept statement_rules.noting r p s).text ∙ t) e h (flags r text f a j p s d) k)
