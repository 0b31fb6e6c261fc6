-- Scopes (C99 6.2.1): the declaration of a name is that of the innermost scope that declares it. Tags have a name space of their own (C99 6.2.3).
use Rattle.std.specs.Prelude.{ℕ, Bool, not, List, [], ◌∷◌, ◌++◌, map, Option, Some, None, ◌&&◌, nat_le, length, slice_range, if◌then◌else◌}
use Rattle.std.specs.Str.{bytes_eq}
use Rattle.indexmap.specs.IndexMap.{get_by}
use Rattle.pk_ast.specs.declared.expressions.Identifier.{Identifier}
use Rattle.pk_type_scope.specs.declared.declarations.Declaration.{Declaration}
use Rattle.pk_type_scope.specs.declared.scopes.Frame.{Frame}
use Rattle.pk_type_scope.specs.declared.scopes.Scope.{Scope}
use Rattle.pk_type_scope.specs.Declarations.{Names}

-- what a name is looked up by: its name space and its bytes
pub record Key : Type 0 where
  pub is_tag : Bool
  pub bytes : List ℕ

abbrev pub is_same : Key → Key → Bool
is_same k q = (if k.is_tag then q.is_tag else not q.is_tag) && bytes_eq k.bytes q.bytes

-- what one scope declares
abbrev pub Layer : Type 0
Layer = Key → Option Declaration

abbrev pub empty : Layer
empty q = None

abbrev pub with_name : Layer → Key → Declaration → Layer
with_name l k d q = if is_same k q then Some d else l q

-- a text, the innermost scope at a place of it, and those around it, the outermost first
pub record Scoping : Type 0 where
  pub text : List ℕ
  pub outer : List Layer
  pub inner : Layer

abbrev pub first_of : Option Declaration → Option Declaration → Option Declaration
first_of (Some d) other = Some d
first_of None other = other

-- a later layer's declaration goes before those of the earlier ones
abbrev pub found_up : List Layer → Key → Option Declaration → Option Declaration
found_up [] q found = found
found_up (l ∷ ls) q found = found_up ls q (first_of (l q) found)

-- the bytes of a name in its text
abbrev pub spelled : List ℕ → Identifier → List ℕ
spelled text x = if nat_le x.start x.end && nat_le x.end (length text) then slice_range text x.start x.end else []

abbrev pub key_of : List ℕ → Identifier → Key
key_of text x = record { is_tag = x.is_tag; bytes = spelled text x }

-- the declaration in scope of each name
unfoldable pub names_in : Scoping → Names
names_in s x = let q = key_of s.text x in first_of (s.inner q) (found_up s.outer q None)

-- what the innermost scope itself declares
abbrev pub declared_here : Scoping → Identifier → Option Declaration
declared_here s x = s.inner (key_of s.text x)

-- a scope that declares nothing, inside
abbrev pub opened : Scoping → Scoping
opened s = record { text = s.text; outer = s.outer ++ s.inner ∷ []; inner = empty }

-- a name declared in the innermost scope
abbrev pub declaring : Scoping → Identifier → Declaration → Scoping
declaring s x d = record { text = s.text; outer = s.outer; inner = with_name s.inner (key_of s.text x) d }

-- the scope of a text before its first declaration
abbrev pub file_scope : List ℕ → Scoping
file_scope text = record { text = text; outer = []; inner = empty }

abbrev pub layer_of : Frame → Layer
layer_of f q =
    if q.is_tag then get_by (λ k. bytes_eq q.bytes k.now) f.tags else get_by (λ k. bytes_eq q.bytes k.now) f.declared

-- what a `Scope` shows
abbrev pub scoping_of : Scope → Scoping
scoping_of s = record { text = s.text.now; outer = map layer_of s.outer.items; inner = layer_of s.inner }
