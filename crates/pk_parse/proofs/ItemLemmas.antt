-- What is answered from a block's next item on that is a declaration.
use Rattle.std.proofs.Common.{◌≡◌, ◌<◌, ◌≤◌, List, ◌∷◌, [], length, Option, Some, None, MatchOption, is_some, true, false, refl, sym, ap, subst, ◌∙◌, arith}
use Rattle.pk_ctypes.specs.declared.places.Pos.{Pos}
use Rattle.pk_lex.specs.declared.token.Token.{Token}
use Rattle.pk_ast.specs.declared.declarations.Specifier.{Specifier}
use Rattle.pk_ast.specs.declared.statements.BlockItem.{BlockItem}
use Rattle.pk_ast.specs.Trees.{DeclarationTree, ItemTrees, no_items, declaration_then, statement_then}
use Rattle.pk_ast.specs.Lists.{append_items, one}
use Rattle.pk_ast.specs.Views.{item_trees}
use Rattle.pk_grammar.specs.declared.signs.Fixed.TheVariants as fixed
use Rattle.pk_grammar.specs.Machine.Signs.{is_fixed, specifier_word}
use Rattle.pk_grammar.specs.Machine.States.{OpenBlock, function_block, inner_block, in_a_block, after_specifiers, block_item, after_static}
use Rattle.pk_grammar.specs.Machine.Steps.{one_more_declaration, block_nesting, with_declaration, declaration_or_statement, begin_static}
use Rattle.pk_grammar.specs.Machine.Running.{syntax, first_of_all, run}
use Rattle.pk_grammar.proofs.CompleteBodies.{step_static}
use Rattle.pk_grammar.proofs.SpellsSigns.{is_this}
use Rattle.pk_parse_expression.specs.Parsing.{Begins, BeginsWithWord}
use Rattle.pk_parse_expression.proofs.RunLemmas.{run_takes, run_refused}
use Rattle.pk_parse.specs.Parts.{with_items, static_state}
use Rattle.pk_parse.proofs.RunStatements.{run_word}

one_more_declaration_is : (list : ItemTrees) (s : Option Pos) (d : DeclarationTree) → one_more_declaration list s d ≡ append_items list (declaration_then s d no_items)
one_more_declaration_is no_items s d = refl
one_more_declaration_is (declaration_then p c list) s d = ap (declaration_then p c) (one_more_declaration_is list s d)
one_more_declaration_is (statement_then r list) s d = ap (statement_then r) (one_more_declaration_is list s d)

with_one_declaration : (b : OpenBlock) (s : Option Pos) (d : DeclarationTree) → with_declaration b s d ≡ with_items b (declaration_then s d no_items)
with_one_declaration (function_block h ps at items) s d = ap (λ q. function_block h ps at q) (one_more_declaration_is items s d)
with_one_declaration (inner_block n at items o) s d = ap (λ q. inner_block n at q o) (one_more_declaration_is items s d)

-- what is known of an answer that gives something, or nothing
pub found : {X : Type 0} (P : X → Type 0) (N : Type 0) (o : Option X) (x : X) → MatchOption o N P → o ≡ Some x → P x
found P N o x m e = subst (λ q. MatchOption q N P) e m

pub not_found : {X : Type 0} (P : X → Type 0) (N : Type 0) (o : Option X) → MatchOption o N P → o ≡ None → N
not_found P N o m e = subst (λ q. MatchOption q N P) e m

-- a `static` is taken where it comes first
abbrev TakesStatic : Token → List Token → List Token → Option Pos → Type 0
TakesStatic end ts rest s = MatchOption s ((is_fixed fixed.Static (first_of_all end ts).kind ≡ false) × (rest ≡ ts)) (λ at. length rest < length ts)

pub no_longer : (end : Token) (ts rest : List Token) (s : Option Pos) → TakesStatic end ts rest s → length rest ≤ length ts
no_longer end ts rest None h = let e = ap length h.1 in omega arith
no_longer end ts rest (Some s) h = omega arith

module _ (end : Token) (b : OpenBlock) (ts : List Token) where
  pub run_static : (t : Token) (rest : List Token) → Begins fixed.Static ts t rest → block_nesting b ≤ 128 → run end (block_item b) ts ≡ run end (after_static b t.at) rest
  run_static t rest f h = run_takes end (block_item b) ts t rest _ _ f.cut (step_static b t.at t (is_this fixed.Static t.kind f.is, refl)) h

  pub run_item_word : (s : Option Pos) (word : Specifier) (rest : List Token) → BeginsWithWord specifier_word ts word rest → block_nesting b ≤ 128 →
      run end (static_state b s) ts ≡ run end (after_specifiers (in_a_block b s) (one word)) rest
  run_item_word None word rest w h =
      run_word end (block_item b) ts word rest (block_nesting b) (λ q. after_specifiers (in_a_block b None) (one q)) w (λ t o e. ap (λ q. declaration_or_statement b t q) e) h
  run_item_word (Some at) word rest w h =
      run_word end (after_static b at) ts word rest (block_nesting b) (λ q. after_specifiers (in_a_block b (Some at)) (one q)) w (λ t o e. ap (λ q. begin_static b at t q) e) h

  no_item_word : (at : Pos) → specifier_word (first_of_all end ts) ≡ None → run end (after_static b at) ts ≡ syntax (first_of_all end ts).at
  no_item_word at e = let t = first_of_all end ts in run_refused end (after_static b at) ts (ap (λ q. begin_static b at t q) e)

  pub stops_item : (s : Option Pos) → is_some s ≡ true → specifier_word (first_of_all end ts) ≡ None → run end (static_state b s) ts ≡ syntax (first_of_all end ts).at
  stops_item None f e = absurd (cc)
  stops_item (Some at) f e = no_item_word at e

  pub after_declaration : (s : Option Pos) (d : DeclarationTree) (item : BlockItem) → item_trees (item ∷ []) ≡ declaration_then s d no_items →
      run end (block_item (with_declaration b s d)) ts ≡ run end (block_item (with_items b (item_trees (item ∷ [])))) ts
  after_declaration s d item e = ap (λ q. run end (block_item q) ts) (with_one_declaration b s d ∙ ap (λ q. with_items b q) (sym e))
