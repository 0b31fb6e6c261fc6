-- Parameters and bodies of functions in which no rule fails.
use Rattle.std.proofs.Common.{◌≡◌, ℕ, suc, ◌≤◌, Bool, true, false, not, if◌then◌else◌, List, [], ◌∷◌, ◌++◌, Option, Some, None, length, map, refl, ap, sym, subst, ◌∙◌, arith, append_assoc, append-nil}
use Rattle.std.proofs.lemmas.Bool.{false≢true}
use Rattle.std.specs.Option.{option_map}
use Rattle.pk_ctypes.specs.declared.places.Pos.{Pos}
use Rattle.pk_ctypes.specs.declared.types.IntType.{IntType}
use Rattle.pk_ctypes.specs.declared.words.Rule.{Rule}
use Rattle.pk_ctypes.specs.declared.words.Rule.TheVariants as rule
use Rattle.pk_ast.specs.declared.expressions.Identifier.{Identifier}
use Rattle.pk_ast.specs.declared.declarations.Specifier.{Specifier}
use Rattle.pk_ast.specs.Trees.{OneOrMore, BlockTree, ParameterTree}
use Rattle.pk_typed.specs.Trees as tree
use Rattle.pk_typed.specs.Trees.{LocalTree, UnitTree}
use Rattle.pk_type_scope.specs.declared.declarations.Declaration.{Declaration}
use Rattle.pk_type_scope.specs.declared.declarations.Declaration.TheVariants.{Object, Function, Enumerator, TypeName}
use Rattle.pk_type_scope.specs.declared.declarations.NamedType.{NamedType}
use Rattle.pk_type_scope.specs.declared.declarations.Typing.{Typing}
use Rattle.pk_type_scope.specs.declared.declarations.Typing.TheVariants.{Void, Integer, Unknown}
use Rattle.pk_type_scope.specs.Declarations.{Names, is_void, is_unknown, is_type_name, type_meant}
use Rattle.pk_type_scope.specs.Failures.{fails_if, noted}
use Rattle.pk_type_scope.specs.Scopes.{Scoping, first_of, found_up, key_of, is_same, names_in, declaring, opened}
use Rattle.pk_type_scope.specs.Specifiers.{type_name_among, type_by, type_named, failures_by, word_failures}
use Rattle.pk_type_declaration.specs.Declarations.{words_of, type_or_int, local_of, integer_in}
use Rattle.pk_type_declaration.specs.Walks.{here, with_local}
use Rattle.pk_type_declaration.specs.Rules.{failing}
use Rattle.pk_type_jump.specs.Jumps.{jumps_of}
use Rattle.pk_type_jump.specs.Labels.{labels_of}
use Rattle.pk_type_statement.specs.Statements.{after_items}
use Rattle.pk_type_statement.specs.Trees.{typed_items}
use Rattle.pk_type_statement.specs.Rules as statements
use Rattle.pk_type.specs.Functions.{unnamed, after_parameter_name, after_parameter, after_parameters, before_body, after_body, body_of, body_at}
use Rattle.pk_type.specs.Signatures.{types_of}
use Rattle.pk_type.specs.Rules as units
use Rattle.pk_type.specs.Rules.{each_at, about_jumps, parameter_failures, is_integer}
use Rattle.pk_welltyped.specs.Listed.{numbered}
use Rattle.pk_welltyped.specs.WellTyped.{AreParameters, AreItems, IsBodyIf, Marks}
use Rattle.pk_type_laws.specs.Accepted.Constants.{ItemsHave}
use Rattle.pk_type_laws.specs.Accepted.Names.{NamesAre}
use Rattle.pk_type_laws.proofs.Accepted.Walks.{W, around, none_found, statics_same, Later, later_same, later, later_failing}
use Rattle.pk_type_expression.proofs.TreeLemmas.{none_before, none_after, holds_not, TypesAre, types_are, known_type}
use Rattle.pk_type_laws.proofs.Accepted.Declarations.{has_types, names_later, found_last, StaticsStand, Begins, begins_before, later_object, not_void, object_declared}
use Rattle.pk_type_laws.proofs.Accepted.Statements.{Ends, items_part, later_items, ItemsPart}
use Rattle.pk_type_laws.proofs.Accepted.Jumps.{labels_below, no_case, no_default}

-- ---- parameters

later_local : (l : LocalTree) (w : W) → Later w (with_local l w)
later_local l w = record { found = λ h. h; more = l ∷ []; locals = refl; statics = statics_same w.statics }

later_parameter : (p : ParameterTree) (w : W) → Later w (after_parameter units.noting p w)
later_parameter p w =
    let v = failing noted (parameter_failures (here w) p) w in
    later w v _ (later_failing (parameter_failures (here w) p) w) (named p.name v)
  where
    named : (x : Option Identifier) (v : W) → Later v (after_parameter_name units.noting p x v)
    named None v =
        let fs = fails_if (is_void (type_named (here v) p.specifiers)) rule.Void p.specifiers.first.at in
        later v (failing noted fs v) _ (later_failing fs v) (later_local (record { name = None; int_type = type_or_int (type_named (here v) p.specifiers); length = None }) (failing noted fs v))
    named (Some x) v = later_object (words_of (here v) p.specifiers) false None x v

pub later_parameters : (ps : List ParameterTree) (w : W) → Later w (after_parameters units.noting ps w)
unfolding after_parameters
later_parameters [] w = later_same w
later_parameters (p ∷ ps) w = later w (after_parameter units.noting p w) _ (later_parameter p w) (later_parameters ps (after_parameter units.noting p w))

abbrev pub Integers : List Typing → Type 0
Integers [] = Unit {0}
Integers (t ∷ ts) = (is_integer t ≡ true) × Integers ts

integer : (t : Typing) → is_void t ≡ false → is_unknown t ≡ false → is_integer t ≡ true
integer Void h k = absurd (false≢true (sym h))
integer (Integer t) h k = refl
integer Unknown h k = absurd (false≢true (sym k))

-- ---- types that parameters name, where scopes of the function declare no type

-- each type name of the second scope is one of the first
abbrev pub TypesFrom : Names → Names → Type 0
TypesFrom c d = (x : Identifier) (t : NamedType) → d x ≡ Some (TypeName t) → c x ≡ Some (TypeName t)

type_kept : (b : Bool) (o : Declaration) (l other : Option Declaration) (t : NamedType) → is_type_name (Some o) ≡ false → first_of (if b then Some o else l) other ≡ Some (TypeName t) → first_of l other ≡ Some (TypeName t)
type_kept true o l other t h is = absurd (false≢true (sym h ∙ ap is_type_name is))
type_kept false o l other t h is = is

same_meant : (o p : Option Declaration) → ((t : NamedType) → o ≡ Some (TypeName t) → p ≡ Some (TypeName t)) → not (is_type_name o) ≡ false → type_meant o ≡ type_meant p
same_meant None p h k = absurd (false≢true (sym k))
same_meant (Some (Object o)) p h k = absurd (false≢true (sym k))
same_meant (Some (Function f)) p h k = absurd (false≢true (sym k))
same_meant (Some (Enumerator n)) p h k = absurd (false≢true (sym k))
same_meant (Some (TypeName t)) p h k = ap type_meant (sym (h t refl))

same_by : (c d : Names) → TypesFrom c d → (o : Option Identifier) (words : OneOrMore Specifier) → failures_by d o words ≡ [] → type_by d o words ≡ type_by c o words
same_by c d h None words k = refl
same_by c d h (Some x) words k = same_meant (d x) (c x) (h x) (holds_not _ _ _ k)

same_type : (c d : Names) → TypesFrom c d → (words : OneOrMore Specifier) → word_failures d words ≡ [] → type_named d words ≡ type_named c words
unfolding type_named word_failures
same_type c d h words k = same_by c d h (type_name_among words) words k

types_from : (c d : Names) → TypesFrom c d → TypesAre c → TypesAre d
types_from c d h k x t is = k x t (h x t is)

pub types_declaring : (c : Names) (s : Scoping) (x : Identifier) (o : Declaration) → is_type_name (Some o) ≡ false → TypesFrom c (names_in s) → TypesFrom c (names_in (declaring s x o))
unfolding names_in
types_declaring c s x o h k y t is = k y t (type_kept (is_same (key_of s.text x) (key_of s.text y)) o (s.inner (key_of s.text y)) (found_up s.outer (key_of s.text y) None) t h is)

pub types_opened : (c : Names) (s : Scoping) → TypesFrom c (names_in s) → TypesFrom c (names_in (opened s))
unfolding names_in
types_opened c s k y t is = k y t (sym (found_last s.outer s.inner (key_of s.text y) None) ∙ is)

types_behind : (c : Names) (p : ParameterTree) (w : W) → TypesFrom c (here w) → TypesFrom c (here (after_parameter units.noting p w))
types_behind c p w k = named p.name
  where
    named : (x : Option Identifier) → TypesFrom c (here (after_parameter_name units.noting p x (failing noted (parameter_failures (here w) p) w)))
    named None = k
    named (Some x) = types_declaring c w.scoping x _ refl k

-- the row at the words of a parameter
parameter_words : (p : ParameterTree) (w : W) → (after_parameter units.noting p w).found ≡ None → word_failures (here w) p.specifiers ≡ []
parameter_words p w h = named p.name h
  where
    named : (x : Option Identifier) → (after_parameter_name units.noting p x (failing noted (parameter_failures (here w) p) w)).found ≡ None → word_failures (here w) p.specifiers ≡ []
    named None h =
        let v = failing noted (parameter_failures (here w) p) w in
        none_before (word_failures (here w) p.specifiers) _ (none_found w.found (parameter_failures (here w) p) (none_found v.found (fails_if (is_void (type_named (here w) p.specifiers)) rule.Void p.specifiers.first.at) h).0).1
    named (Some x) h =
        let v = failing noted (parameter_failures (here w) p) w in
        none_before (word_failures (here w) p.specifiers) _ (none_found w.found (parameter_failures (here w) p) ((later_object (words_of (here w) p.specifiers) false None x v).found h)).1

parameter_integer : (p : ParameterTree) (w : W) → TypesAre (here w) → (after_parameter units.noting p w).found ≡ None → is_integer (type_named (here w) p.specifiers) ≡ true
parameter_integer p w k h = named p.name h
  where
    known : is_unknown (type_named (here w) p.specifiers) ≡ false
    known = known_type (here w) k p.specifiers (parameter_words p w h)

    named : (x : Option Identifier) → (after_parameter_name units.noting p x (failing noted (parameter_failures (here w) p) w)).found ≡ None → is_integer (type_named (here w) p.specifiers) ≡ true
    named None h =
        let t = type_named (here w) p.specifiers in
        let v = failing noted (parameter_failures (here w) p) w in
        integer t (holds_not _ _ _ (none_found v.found (fails_if (is_void t) rule.Void p.specifiers.first.at) h).1) known
    named (Some x) h =
        let v = failing noted (parameter_failures (here w) p) w in
        integer (type_named (here w) p.specifiers) (not_void (words_of (here w) p.specifiers) false None x v h) known

pub integers_of : (c : Names) (ps : List ParameterTree) (w : W) → TypesAre c → TypesFrom c (here w) → (after_parameters units.noting ps w).found ≡ None → Integers (types_of c ps)
unfolding after_parameters
integers_of c [] w a k h = tt
integers_of c (p ∷ ps) w a k h =
    let v = after_parameter units.noting p w in
    let f : v.found ≡ None = (later_parameters ps v).found h in
    (ap is_integer (sym (same_type c (here w) k p.specifiers (parameter_words p w f))) ∙ parameter_integer p w (types_from c (here w) k a) f, integers_of c ps v a (types_behind c p w k) h)

record One (u : UnitTree) (ls : List LocalTree) (w v : W) (t : Typing) : Type 0 where
  names : NamesAre (around u ls v) (here v)
  calls : v.calls ≡ w.calls
  local : LocalTree
  locals : v.locals ≡ w.locals ++ local ∷ []
  type_is : local.int_type ≡ type_or_int t
  length_is : local.length ≡ None

parameter : (u : UnitTree) (ls : List LocalTree) (p : ParameterTree) (w : W) → NamesAre (around u ls w) (here w) → Begins u ls (after_parameter units.noting p w) → (after_parameter units.noting p w).found ≡ None
    → One u ls w (after_parameter units.noting p w) (type_named (here w) p.specifiers)
parameter u ls p w n b h = named p.name b h
  where
    named : (x : Option Identifier) → Begins u ls (after_parameter_name units.noting p x (failing noted (parameter_failures (here w) p) w)) → (after_parameter_name units.noting p x (failing noted (parameter_failures (here w) p) w)).found ≡ None
        → One u ls w (after_parameter_name units.noting p x (failing noted (parameter_failures (here w) p) w)) (type_named (here w) p.specifiers)
    named None b h =
        let t = type_named (here w) p.specifiers in
        let v = failing noted (parameter_failures (here w) p) w in
        let fs = fails_if (is_void t) rule.Void p.specifiers.first.at in
        let f = none_found v.found fs h in
        let x = unnamed units.noting p v in
        let l = later w (failing noted fs v) x (later w v _ (later_failing (parameter_failures (here w) p) w) (later_failing fs v)) (later_local (record { name = None; int_type = type_or_int t; length = None }) (failing noted fs v)) in
        record {
          names = names_later u ls w x (here w) l n;
          calls = refl;
          local = record { name = None; int_type = type_or_int t; length = None };
          locals = refl;
          type_is = refl;
          length_is = refl;
        }
    named (Some x) b h =
        let t = type_named (here w) p.specifiers in
        let v = failing noted (parameter_failures (here w) p) w in
        let f = (later_object (words_of (here w) p.specifiers) false None x v).found h in
        let unknown : is_unknown t ≡ false = known_type (here w) (types_are (here w) (λ y. has_types (around u ls w) (here w y) (n y))) p.specifiers (none_before (word_failures (here w) p.specifiers) _ (none_found w.found (parameter_failures (here w) p) f).1) in
        let o = object_declared u ls (words_of (here w) p.specifiers) false None x v n unknown b h in
        record {
          names = o.names;
          calls = refl;
          local = local_of t v.scoping false None x;
          locals = refl;
          type_is = refl;
          length_is = refl;
        }

pub record Parameters (u : UnitTree) (ls : List LocalTree) (w v : W) (ts : List Typing) : Type 0 where
  pub names : NamesAre (around u ls v) (here v)
  pub calls : v.calls ≡ w.calls
  pub more : List LocalTree
  pub locals : v.locals ≡ w.locals ++ more
  pub are : AreParameters (map type_or_int ts) more
  pub many : length more ≡ length (map type_or_int ts)

pub parameters : (u : UnitTree) (ls : List LocalTree) (c : Names) (ps : List ParameterTree) (w : W) → NamesAre (around u ls w) (here w) → TypesFrom c (here w) → Begins u ls (after_parameters units.noting ps w)
    → (after_parameters units.noting ps w).found ≡ None → Parameters u ls w (after_parameters units.noting ps w) (types_of c ps)
unfolding after_parameters
parameters u ls c [] w n k b h = record { names = n; calls = refl; more = []; locals = sym (append-nil w.locals); are = tt; many = refl }
parameters u ls c (p ∷ ps) w n k b h =
    let v = after_parameter units.noting p w in
    let l = later_parameters ps v in
    let one = parameter u ls p w n (begins_before u ls v _ l b) (l.found h) in
    let all = parameters u ls c ps v one.names (types_behind c p w k) b h in
    record {
      names = all.names;
      calls = all.calls ∙ one.calls;
      more = one.local ∷ all.more;
      locals = all.locals ∙ (ap (λ (xs : List LocalTree). xs ++ all.more) one.locals ∙ append_assoc w.locals (one.local ∷ []) all.more);
      are = (one.type_is ∙ ap type_or_int (same_type c (here w) k p.specifiers (parameter_words p w (l.found h))), one.length_is, all.are);
      many = ap suc all.many;
    }

-- and more objects behind them
pub with_others : (ts : List IntType) (xs ys : List LocalTree) → AreParameters ts xs → AreParameters ts (xs ++ ys)
with_others [] xs ys h = tt
with_others (t ∷ ts) [] ys h = absurd h
with_others (t ∷ ts) (x ∷ xs) ys h = (h.0, h.1, with_others ts xs ys h.2)

-- ---- a body

none_at : (r : Rule) (xs : List Pos) → each_at r xs ≡ [] → xs ≡ []
none_at r [] h = refl
none_at r (x ∷ xs) h = absurd (cc)

pub later_body : (r : Typing) (b : BlockTree) (w : W) → Later w (after_body units.noting r b w)
later_body r b w =
    let labels = labels_of w.scoping.text b.items in
    let fs = about_jumps labels (jumps_of w.scoping.text labels.labels b.items) in
    let p = before_body w in
    later w (after_items statements.noting r p b.items).walked _ (later_items r p b.items).walked (later_failing fs (after_items statements.noting r p b.items).walked)

made : (u : UnitTree) (g : tree.FunctionTree) (m : Marks) (visible : ℕ) (b : BlockTree) (w v x : W) (is : Option tree.ItemTrees) → m ≡ record { labels = m.labels; returns = g.returns; cases = 0; has_default = false } → x.calls ≡ v.calls → x.locals ≡ v.locals
    → visible ≤ length u.objects → w.calls ≡ [] → AreParameters g.parameters x.locals → length w.locals ≡ length g.parameters → ItemsPart u x.locals m w v is
    → IsBodyIf u g (option_map (body_of b visible m.labels x) is)
made u g m visible b w v x None im c l s k p n h = tt
made u g m visible b w v x (Some is) im c l s k p n h = record {
  visible = s;
  parameters = p;
  items = subst (λ (o : Marks). AreItems (record { unit = u; locals = x.locals; objects = length g.parameters }) o is) im (subst (λ (i : ℕ). AreItems (record { unit = u; locals = x.locals; objects = i }) m is) n h.0);
  calls =
      let at : numbered (length w.calls) h.1.sites ≡ numbered 0 h.1.sites = ap (λ (cs : List _). numbered (length cs) h.1.sites) k in
      let is_them : x.calls ≡ h.1.sites = c ∙ (h.1.calls ∙ ap (λ (cs : List _). cs ++ h.1.sites) k) in
      h.1.listed ∙ (at ∙ sym (ap (numbered 0) is_them));
}

pub body : (u : UnitTree) (g : tree.FunctionTree) (r : Typing) (visible : ℕ) (b : BlockTree) (w : W) → StaticsStand u (after_body units.noting r b w).statics → visible ≤ length u.objects → w.calls ≡ [] → AreParameters g.parameters (after_body units.noting r b w).locals
    → length w.locals ≡ length g.parameters → g.returns ≡ integer_in r → is_unknown r ≡ false
    → NamesAre (around u (after_body units.noting r b w).locals w) (here w) → ItemsHave b.items → (after_body units.noting r b w).found ≡ None → IsBodyIf u g (body_at units.noting r visible b w)
body u g r visible b w stand s k p n ret known names has h =
    let labels = labels_of w.scoping.text b.items in
    let jumps = jumps_of w.scoping.text labels.labels b.items in
    let fs = about_jumps labels jumps in
    let start = before_body w in
    let q = after_items statements.noting r start b.items in
    let x = after_body units.noting r b w in
    let f = none_found q.walked.found fs h in
    let rows : each_at rule.Label labels.repeated ++ each_at rule.Label jumps.unknown ++ each_at rule.Jump jumps.misplaced ≡ [] = f.1 in
    let placed : jumps.misplaced ≡ [] = none_at rule.Jump jumps.misplaced (none_after (each_at rule.Label labels.repeated ++ each_at rule.Label jumps.unknown) (each_at rule.Jump jumps.misplaced) rows) in
    let m : Marks = record { labels = labels.count; returns = g.returns; cases = 0; has_default = false } in
    let e : Ends u x.locals m q = record {
      begins = record { rest = []; is = sym (append-nil q.walked.locals); statics = stand };
      found = f.0;
      cases = omega (ap length (no_case w.scoping.text labels.labels r start b.items placed), arith);
      default = λ t. absurd (false≢true (sym (no_default w.scoping.text labels.labels r start b.items placed) ∙ t));
    } in
    made u g m visible b w q.walked x (typed_items statements.noting r labels.labels start b.items) refl refl refl s k p n
    (items_part u x.locals r labels.labels m (labels_below w.scoping.text b.items, ret, known) start b.items names has e)
