-- What is noted after each form of expression, and what is known of it, by the steps in which the walk goes over it.
use Rattle.std.proofs.Common.{◌≡◌, ℕ, ℤ, ◌+◌, Bool, true, false, not, ◌&&◌, pos, List, ◌++◌, Option, None, length, refl, ap, sym, ◌∙◌, append_assoc, length-append, arith, append-nil}
use Rattle.std.specs.Option.{is_some}
use Rattle.pk_ctypes.specs.declared.places.Pos.{Pos}
use Rattle.pk_ctypes.specs.declared.types.IntType.{IntType}
use Rattle.pk_ctypes.specs.declared.types.IntType.TheVariants.{Int}
use Rattle.pk_ctypes.specs.declared.types.Op.{Op}
use Rattle.pk_ctypes.specs.declared.words.Rule.TheVariants as rule
use Rattle.pk_ast.specs.declared.declarations.Specifier.{Specifier}
use Rattle.pk_ast.specs.declared.expressions.Identifier.{Identifier}
use Rattle.pk_ast.specs.declared.operators.BinaryOperator.{BinaryOperator}
use Rattle.pk_ast.specs.declared.operators.UnaryOperator.{UnaryOperator}
use Rattle.pk_ast.specs.declared.operators.StepOperator.{StepOperator}
use Rattle.pk_ast.specs.declared.operators.AssignmentOperator.{AssignmentOperator}
use Rattle.pk_ast.specs.Operators.{assignment_number_operator}
use Rattle.pk_ast.specs.Places.{first_place_of}
use Rattle.pk_ast.specs.Trees.{OneOrMore, ExpressionTree, ExpressionTrees, name, call, index, element, constant, character, parenthesized, postfix, prefix, unary, cast, binary, conditional, assignment, comma, no_expressions, expression_then}
use Rattle.pk_typed.specs.Trees.{ValueTrees}
use Rattle.pk_type_scope.specs.declared.declarations.Declaration.{Declaration}
use Rattle.pk_type_scope.specs.declared.declarations.Typing.{Typing}
use Rattle.pk_type_scope.specs.Declarations.{Names, is_void, own_site}
use Rattle.pk_type_scope.specs.Failures.{fails_if}
use Rattle.pk_type_scope.specs.Specifiers.{type_named, word_failures}
use Rattle.pk_type_expression.specs.Mentions.{Mentioned, named, changed, mentions_of_each, all_joined, named_in_all, changed_in_all}
use Rattle.pk_type_expression.specs.Types.{type_of, target_of, type_of_call}
use Rattle.pk_type_expression.specs.Typed.{typed, typed_all, typed_call, calls, calls_in_all}
use Rattle.pk_type_expression.specs.Rules.{count, undeclared, void, array, place, constness, arguments, unsequenced, failures}
use Rattle.pk_type_expression.specs.Forms.{name_failures, known_name, element_failures, known_element, row_element_failures, known_row_element, known_constant, call_failures, known_call, step_failures, known_step, known_unary, known_cast, binary_failures, known_binary, known_conditional, assignment_failures, known_assignment, known_comma}
use Rattle.pk_type_scope.specs.Notes.{Noted, with_failures}
use Rattle.pk_type_expression.specs.Views.{Known, known, after, after_used, after_all}
use Rattle.pk_type_scope.proofs.FailureLemmas.{noted_append, same_noted}
use Rattle.pk_type_expression.proofs.FailureLemmas.{when_fails_if}

-- how many calls stand before the second of two operands
calls_between : (d : Names) (a : ExpressionTree) (s t : Noted) → t ≡ after_used d a s → length t.calls ≡ length s.calls + length (calls d a)
calls_between d a s t e = ap (λ u. length u.calls) e ∙ length-append s.calls (calls d a)

calls_between' : (d : Names) (a : ExpressionTree) (s t : Noted) → t ≡ after d a s → length t.calls ≡ length s.calls + length (calls d a)
calls_between' d a s t e = ap (λ u. length u.calls) e ∙ length-append s.calls (calls d a)

-- a name
pub name_notes : (d : Names) (e : ExpressionTree) (x : Identifier) (o : Option Declaration) (s t : Noted) → e ≡ name x → o ≡ d x → t ≡ with_failures s (name_failures x.at o) → t ≡ after d e s
unfolding failures undeclared array place constness arguments unsequenced calls
name_notes d e x o s t is look h = rw (h, look, is) (same_noted _ _ _ _ (simp noted_append) (simp append-nil))

pub name_known : (d : Names) (n : ℕ) (e : ExpressionTree) (x : Identifier) (o : Option Declaration) (c : Known) → e ≡ name x → o ≡ d x → c ≡ known_name o → c ≡ known d n e
unfolding type_of target_of named changed typed
name_known d n e x o c is look h = rw (h, look, is) refl

-- an element
pub element_notes : (d : Names) (e i : ExpressionTree) (x : Identifier) (at : Pos) (o : Option Declaration) (s t u : Noted) → e ≡ index x at i → o ≡ d x → t ≡ after_used d i s → u ≡ with_failures t (element_failures x.at o) → u ≡ after d e s
unfolding failures undeclared array place constness arguments unsequenced calls
element_notes d e i x at o s t u is look during h = rw (h, during, look, is) (same_noted _ _ _ _ (simp noted_append) refl)

pub element_known : (d : Names) (n : ℕ) (e i : ExpressionTree) (x : Identifier) (at : Pos) (o : Option Declaration) (c k : Known) → e ≡ index x at i → o ≡ d x → k ≡ known d n i → c ≡ known_element at o k → c ≡ known d n e
unfolding type_of target_of named changed typed
element_known d n e i x at o c k is look inner h = rw (h, inner, look, is) refl

-- an element of a row
pub row_element_notes : (d : Names) (e a b : ExpressionTree) (x : Identifier) (at column_at : Pos) (o : Option Declaration) (s t u v : Noted)
    → e ≡ element x at a column_at b → o ≡ d x → t ≡ after_used d a s → u ≡ after_used d b t → v ≡ with_failures u (row_element_failures x.at o) → v ≡ after d e s
unfolding failures undeclared array place constness arguments unsequenced calls
row_element_notes d e a b x at column_at o s t u v is look first second h = rw (h, second, first, look, is) (same_noted _ _ _ _ (simp noted_append) (append_assoc s.calls (calls d a) (calls d b)))

pub row_element_known : (d : Names) (m n : ℕ) (e a b : ExpressionTree) (x : Identifier) (at column_at : Pos) (o : Option Declaration) (c k l : Known)
    → e ≡ element x at a column_at b → o ≡ d x → k ≡ known d m a → l ≡ known d n b → c ≡ known_row_element o k l → c ≡ known d m e
unfolding type_of target_of named changed typed
row_element_known d m n e a b x at column_at o c k l is look left right h = rw (h, right, left, look, is) refl

-- constants
pub constant_notes : (d : Names) (e : ExpressionTree) (at : Pos) (t : IntType) (n : ℕ) (s : Noted) → e ≡ constant at t n → s ≡ after d e s
unfolding failures calls
constant_notes d e at t n s is = rw is (same_noted _ _ _ _ refl (sym (append-nil s.calls)))

pub constant_known : (d : Names) (m : ℕ) (e : ExpressionTree) (at : Pos) (t : IntType) (n : ℕ) (c : Known) → e ≡ constant at t n → c ≡ known_constant t (pos n) → c ≡ known d m e
unfolding type_of target_of named changed typed
constant_known d m e at t n c is h = rw (h, is) refl

pub character_notes : (d : Names) (e : ExpressionTree) (at : Pos) (n : ℤ) (s : Noted) → e ≡ character at n → s ≡ after d e s
unfolding failures calls
character_notes d e at n s is = rw is (same_noted _ _ _ _ refl (sym (append-nil s.calls)))

pub character_known : (d : Names) (m : ℕ) (e : ExpressionTree) (at : Pos) (n : ℤ) (c : Known) → e ≡ character at n → c ≡ known_constant Int n → c ≡ known d m e
unfolding type_of target_of named changed typed
character_known d m e at n c is h = rw (h, is) refl

-- parentheses
pub parenthesized_notes : (d : Names) (e i : ExpressionTree) (at : Pos) (s t : Noted) → e ≡ parenthesized at i → t ≡ after d i s → t ≡ after d e s
unfolding failures calls
parenthesized_notes d e i at s t is h = rw (h, is) refl

pub parenthesized_known : (d : Names) (n : ℕ) (e i : ExpressionTree) (at : Pos) (c : Known) → e ≡ parenthesized at i → c ≡ known d n i → c ≡ known d n e
unfolding type_of target_of named changed typed
parenthesized_known d n e i at c is h = rw (h, is) refl

-- steps
pub postfix_notes : (d : Names) (n : ℕ) (e i : ExpressionTree) (op : StepOperator) (at : Pos) (k : Known) (s t u : Noted) → e ≡ postfix op at i → t ≡ after_used d i s → k ≡ known d n i → u ≡ with_failures t (step_failures at k) → u ≡ after d e s
unfolding failures undeclared array place constness arguments unsequenced calls
postfix_notes d n e i op at k s t u is during inner h = rw (h, inner, during, is) (same_noted _ _ _ _ (simp noted_append) refl)

pub postfix_known : (d : Names) (n : ℕ) (e i : ExpressionTree) (op : StepOperator) (at : Pos) (c k : Known) → e ≡ postfix op at i → k ≡ known d n i → c ≡ known_step op false at k → c ≡ known d n e
unfolding type_of target_of named changed typed
postfix_known d n e i op at c k is inner h = rw (h, inner, is) refl

pub prefix_notes : (d : Names) (n : ℕ) (e i : ExpressionTree) (op : StepOperator) (at : Pos) (k : Known) (s t u : Noted) → e ≡ prefix op at i → t ≡ after_used d i s → k ≡ known d n i → u ≡ with_failures t (step_failures at k) → u ≡ after d e s
unfolding failures undeclared array place constness arguments unsequenced calls
prefix_notes d n e i op at k s t u is during inner h = rw (h, inner, during, is) (same_noted _ _ _ _ (simp noted_append) refl)

pub prefix_known : (d : Names) (n : ℕ) (e i : ExpressionTree) (op : StepOperator) (at : Pos) (c k : Known) → e ≡ prefix op at i → k ≡ known d n i → c ≡ known_step op true at k → c ≡ known d n e
unfolding type_of target_of named changed typed
prefix_known d n e i op at c k is inner h = rw (h, inner, is) refl

-- prefix operators on values
pub unary_notes : (d : Names) (e i : ExpressionTree) (op : UnaryOperator) (at : Pos) (s t : Noted) → e ≡ unary op at i → t ≡ after_used d i s → t ≡ after d e s
unfolding failures calls
unary_notes d e i op at s t is h = rw (h, is) refl

pub unary_known : (d : Names) (n : ℕ) (e i : ExpressionTree) (op : UnaryOperator) (at : Pos) (c k : Known) → e ≡ unary op at i → k ≡ known d n i → c ≡ known_unary op at k → c ≡ known d n e
unfolding type_of target_of named changed typed
unary_known d n e i op at c k is inner h = rw (h, inner, is) refl

-- a cast: its words, what it casts, and that this is void where it is used
pub cast_notes : (d : Names) (n : ℕ) (e i : ExpressionTree) (words : OneOrMore Specifier) (at : Pos) (to : Typing) (k : Known) (s t u v : Noted)
    → e ≡ cast at words i → t ≡ with_failures s (word_failures d words) → to ≡ type_named d words → u ≡ after d i t → k ≡ known d n i
    → v ≡ with_failures u (fails_if (not (is_void to) && is_void k.typing) rule.Void (first_place_of i)) → v ≡ after d e s
unfolding failures void calls
cast_notes d n e i words at to k s t u v is before names during inner h = rw (h, inner, during, names, before, is) (same_noted _ _ _ _ (simp (noted_append, when_fails_if)) refl)

pub cast_known : (d : Names) (n : ℕ) (e i : ExpressionTree) (words : OneOrMore Specifier) (at : Pos) (to : Typing) (c k : Known) → e ≡ cast at words i → to ≡ type_named d words → k ≡ known d n i → c ≡ known_cast to k → c ≡ known d n e
unfolding type_of target_of named changed typed
cast_known d n e i words at to c k is names inner h = rw (h, inner, names, is) refl

-- binary operators
pub binary_notes : (d : Names) (m n : ℕ) (e a b : ExpressionTree) (op : BinaryOperator) (at : Pos) (k l : Known) (s t u v : Noted)
    → e ≡ binary op at a b → t ≡ after_used d a s → k ≡ known d m a → u ≡ after_used d b t → l ≡ known d n b → v ≡ with_failures u (binary_failures op at k l) → v ≡ after d e s
unfolding failures undeclared array place constness arguments unsequenced calls
binary_notes d m n e a b op at k l s t u v is first left second right h = rw (h, right, second, left, first, is) (same_noted _ _ _ _ (simp noted_append) (append_assoc s.calls (calls d a) (calls d b)))

pub binary_known : (d : Names) (e a b : ExpressionTree) (op : BinaryOperator) (at : Pos) (c k l : Known) (s t : Noted)
    → e ≡ binary op at a b → t ≡ after_used d a s → k ≡ known d (length s.calls) a → l ≡ known d (length t.calls) b → c ≡ known_binary op at k l → c ≡ known d (length s.calls) e
unfolding type_of target_of named changed typed
binary_known d e a b op at c k l s t is first left right h =
    let right' : l ≡ known d (length s.calls + length (calls d a)) b = right ∙ ap (λ n. known d n b) (calls_between d a s t first) in
    rw (h, right', left, is) refl

-- `?:`
pub conditional_notes : (d : Names) (e a b i : ExpressionTree) (at : Pos) (s t u v : Noted)
    → e ≡ conditional at a b i → t ≡ after_used d a s → u ≡ after_used d b t → v ≡ after_used d i u → v ≡ after d e s
unfolding failures calls
conditional_notes d e a b i at s t u v is first second third = rw (third, second, first, is) (same_noted _ _ _ _ (simp noted_append) (simp append_assoc))

pub conditional_known : (d : Names) (e a b i : ExpressionTree) (at : Pos) (c j k l : Known) (s t u : Noted)
    → e ≡ conditional at a b i → t ≡ after_used d a s → j ≡ known d (length s.calls) a → u ≡ after_used d b t → k ≡ known d (length t.calls) b → l ≡ known d (length u.calls) i
    → c ≡ known_conditional j k l → c ≡ known d (length s.calls) e
unfolding type_of target_of named changed typed
conditional_known d e a b i at c j k l s t u is first one second two three h =
    let m : length t.calls ≡ length s.calls + length (calls d a) = calls_between d a s t first in
    let two' : k ≡ known d (length s.calls + length (calls d a)) b = two ∙ ap (λ n. known d n b) m in
    let three' : l ≡ known d ((length s.calls + length (calls d a)) + length (calls d b)) i = three ∙ ap (λ n. known d n i) (calls_between d b t u second ∙ ap (λ n. n + length (calls d b)) m) in
    rw (h, three', two', one, is) refl

-- assignments: the left side, that it is void where it is read, the right side, and the assignment's own
pub assignment_notes : (d : Names) (m n : ℕ) (e a b : ExpressionTree) (op : AssignmentOperator) (at : Pos) (k l : Known) (s t u v w : Noted)
    → e ≡ assignment op at a b → t ≡ after d a s → k ≡ known d m a → u ≡ with_failures t (fails_if (is_some (assignment_number_operator op) && is_void k.typing) rule.Void (first_place_of a))
    → v ≡ after_used d b u → l ≡ known d n b → w ≡ with_failures v (assignment_failures at k l) → w ≡ after d e s
unfolding failures undeclared array place constness arguments unsequenced void calls
assignment_notes d m n e a b op at k l s t u v w is first left used second right h =
    rw (h, right, second, used, left, first, is) (same_noted _ _ _ _ (simp (noted_append, when_fails_if)) (append_assoc s.calls (calls d a) (calls d b)))

pub assignment_known : (d : Names) (e a b : ExpressionTree) (op : AssignmentOperator) (at : Pos) (c k l : Known) (s t : Noted)
    → e ≡ assignment op at a b → length t.calls ≡ length s.calls + length (calls d a) → k ≡ known d (length s.calls) a → l ≡ known d (length t.calls) b → c ≡ known_assignment op at k l → c ≡ known d (length s.calls) e
unfolding type_of target_of named changed typed
assignment_known d e a b op at c k l s t is between left right h =
    let right' : l ≡ known d (length s.calls + length (calls d a)) b = right ∙ ap (λ n. known d n b) between in
    rw (h, right', left, is) refl

-- the comma
pub comma_notes : (d : Names) (e a b : ExpressionTree) (at : Pos) (s t u : Noted) → e ≡ comma at a b → t ≡ after d a s → u ≡ after d b t → u ≡ after d e s
unfolding failures calls
comma_notes d e a b at s t u is first second = rw (second, first, is) (same_noted _ _ _ _ (simp noted_append) (append_assoc s.calls (calls d a) (calls d b)))

pub comma_known : (d : Names) (e a b : ExpressionTree) (at : Pos) (c k l : Known) (s t : Noted)
    → e ≡ comma at a b → t ≡ after d a s → k ≡ known d (length s.calls) a → l ≡ known d (length t.calls) b → c ≡ known_comma k l → c ≡ known d (length s.calls) e
unfolding type_of target_of named changed typed
comma_known d e a b at c k l s t is first left right h =
    let right' : l ≡ known d (length s.calls + length (calls d a)) b = right ∙ ap (λ n. known d n b) (calls_between' d a s t first) in
    rw (h, right', left, is) refl

-- calls
named_in_each : (d : Names) (es : ExpressionTrees) → named_in_all d es ≡ (all_joined (mentions_of_each d es)).named
unfolding named_in_all mentions_of_each
named_in_each d no_expressions = refl
named_in_each d (expression_then e es) = ap (λ xs. named d e ++ xs) (named_in_each d es)

changed_in_each : (d : Names) (es : ExpressionTrees) → changed_in_all d es ≡ (all_joined (mentions_of_each d es)).changed
unfolding changed_in_all mentions_of_each
changed_in_each d no_expressions = refl
changed_in_each d (expression_then e es) = ap (λ xs. changed d e ++ xs) (changed_in_each d es)

mentions_in_each : (d : Names) (es : ExpressionTrees) → ◌≡◌ {A = Mentioned} (record { named = named_in_all d es; changed = changed_in_all d es }) (all_joined (mentions_of_each d es))
mentions_in_each d es = ap (λ xs. record { named = xs; changed = changed_in_all d es }) (named_in_each d es) ∙ ap (λ xs. record { named = (all_joined (mentions_of_each d es)).named; changed = xs }) (changed_in_each d es)

counted_each : (d : Names) (es : ExpressionTrees) → length (mentions_of_each d es) ≡ count es
unfolding mentions_of_each
counted_each d no_expressions = refl
counted_each d (expression_then e es) = let h : length (mentions_of_each d es) ≡ count es = counted_each d es in omega (arith, h)

pub call_notes : (d : Names) (e : ExpressionTree) (x : Identifier) (es : ExpressionTrees) (o : Option Declaration) (ms : List Mentioned) (s t u v : Noted)
    → e ≡ call x es → o ≡ d x → t ≡ record { found = s.found; calls = s.calls ++ own_site x.at o } → u ≡ after_all d es t → ms ≡ mentions_of_each d es → v ≡ with_failures u (call_failures x.at o ms) → v ≡ after d e s
unfolding failures undeclared array place constness arguments unsequenced calls
call_notes d e x es o ms s t u v is look own during each h =
    rw (h, each, during, own, look, is) (same_noted _ _ _ _ (simp (noted_append, counted_each)) (append_assoc s.calls (own_site x.at (d x)) (calls_in_all d es)))

pub call_known : (d : Names) (e : ExpressionTree) (x : Identifier) (es : ExpressionTrees) (o : Option Declaration) (ms : List Mentioned) (vs : Option ValueTrees) (c : Known) (s t : Noted)
    → e ≡ call x es → o ≡ d x → t ≡ record { found = s.found; calls = s.calls ++ own_site x.at o } → ms ≡ mentions_of_each d es → vs ≡ typed_all d (length t.calls) es
    → c ≡ known_call x.at (length s.calls) o ms vs → c ≡ known d (length s.calls) e
unfolding type_of target_of named changed typed
call_known d e x es o ms vs c s t is look own each values h =
    let site : length t.calls ≡ length s.calls + length (own_site x.at (d x)) = ap (λ u. length u.calls) own ∙ (length-append s.calls (own_site x.at o) ∙ ap (λ p. length s.calls + length (own_site x.at p)) look) in
    let values' : vs ≡ typed_all d (length s.calls + length (own_site x.at (d x))) es = values ∙ ap (λ n. typed_all d n es) site in
    rw (h, values', each, look, is) (ap (λ m. record { typing = type_of_call (d x); target = None; mentions = m; tree = typed_call (d x) (length s.calls) x.at (typed_all d (length s.calls + length (own_site x.at (d x))) es) }) (sym (mentions_in_each d es)))

-- with what the code has in place of these
pub call_known' : (d : Names) (e : ExpressionTree) (x : Identifier) (es : ExpressionTrees) (o : Option Declaration) (ms : List Mentioned) (vs : Option ValueTrees) (c : Known) (n : ℕ) (s t : Noted)
    → e ≡ call x es → o ≡ d x → t ≡ record { found = s.found; calls = s.calls ++ own_site x.at o } → ms ≡ mentions_of_each d es → vs ≡ typed_all d (length t.calls) es
    → n ≡ length s.calls → c ≡ known_call x.at n o ms vs → c ≡ known d (length s.calls) e
call_known' d e x es o ms vs c n s t is look own each values site h = call_known d e x es o ms vs c s t is look own each values (h ∙ ap (λ m. known_call x.at m o ms vs) site)

-- with a test that the code has made
pub cast_notes' : (d : Names) (n : ℕ) (e i : ExpressionTree) (words : OneOrMore Specifier) (at : Pos) (to : Typing) (b : Bool) (k : Known) (s t u v : Noted)
    → e ≡ cast at words i → t ≡ with_failures s (word_failures d words) → to ≡ type_named d words → u ≡ after d i t → k ≡ known d n i → b ≡ is_void to
    → v ≡ with_failures u (fails_if (not b && is_void k.typing) rule.Void (first_place_of i)) → v ≡ after d e s
cast_notes' d n e i words at to b k s t u v is before names during inner test h =
    cast_notes d n e i words at to k s t u v is before names during inner (h ∙ ap (λ x. with_failures u (fails_if (not x && is_void k.typing) rule.Void (first_place_of i))) test)

pub cast_known' : (d : Names) (e i : ExpressionTree) (words : OneOrMore Specifier) (at : Pos) (to : Typing) (c k : Known) (s t : Noted)
    → e ≡ cast at words i → t ≡ with_failures s (word_failures d words) → to ≡ type_named d words → k ≡ known d (length t.calls) i → c ≡ known_cast to k → c ≡ known d (length s.calls) e
cast_known' d e i words at to c k s t is before names inner h =
    cast_known d (length s.calls) e i words at to c k is names (inner ∙ ap (λ u. known d (length u.calls) i) before) h

pub assignment_notes' : (d : Names) (m n : ℕ) (e a b : ExpressionTree) (op : AssignmentOperator) (at : Pos) (o : Option Op) (x : Bool) (k l : Known) (s t u v w : Noted)
    → e ≡ assignment op at a b → t ≡ after d a s → k ≡ known d m a → o ≡ assignment_number_operator op → x ≡ is_some o
    → u ≡ with_failures t (fails_if (x && is_void k.typing) rule.Void (first_place_of a))
    → v ≡ after_used d b u → l ≡ known d n b → w ≡ with_failures v (assignment_failures at k l) → w ≡ after d e s
assignment_notes' d m n e a b op at o x k l s t u v w is first left number test used second right h =
    assignment_notes d m n e a b op at k l s t u v w is first left
    (used ∙ ap (λ y. with_failures t (fails_if (y && is_void k.typing) rule.Void (first_place_of a))) (test ∙ ap is_some number)) second right h

pub assignment_known' : (d : Names) (e a b : ExpressionTree) (op : AssignmentOperator) (at : Pos) (c k l : Known) (s t u : Noted)
    → e ≡ assignment op at a b → t ≡ after d a s → k ≡ known d (length s.calls) a → length u.calls ≡ length t.calls → l ≡ known d (length u.calls) b → c ≡ known_assignment op at k l → c ≡ known d (length s.calls) e
assignment_known' d e a b op at c k l s t u is first left same right h =
    assignment_known d e a b op at c k l s u is (same ∙ calls_between' d a s t first) left right h

-- an expression that is used
pub used_notes : (d : Names) (n : ℕ) (e : ExpressionTree) (k : Known) (s t u : Noted) → t ≡ after d e s → k ≡ known d n e → u ≡ with_failures t (fails_if (is_void k.typing) rule.Void (first_place_of e)) → u ≡ after_used d e s
unfolding void
used_notes d n e k s t u before inner h = rw (h, inner, before) (same_noted _ _ _ _ (simp noted_append) refl)
