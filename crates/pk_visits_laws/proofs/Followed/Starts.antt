-- Where runs begin: each variable of the unit's draft holds what its object does.
use Rattle.std.proofs.Common.{◌≡◌, ℕ, zero, suc, ◌<◌, List, [], ◌∷◌, length, Some, refl, sym, ap, subst, ◌∙◌, arith}
use Rattle.std.specs.Prelude.{slice_get, option_map}
use Rattle.pk_typed.specs.Trees.{LocalTree, BodyTree, FunctionTree, FileObjectTree, UnitTree, StartTree, scalar_start, array_start}
use Rattle.pk_calls.specs.declared.listings.CallPath.{CallPath}
use Rattle.pk_graph.specs.Kinds.{count_of, Kind, scalar_kind}
use Rattle.pk_welltyped.specs.WellTyped.{kind_among, IsStart, IsUnit}
use Rattle.pk_meaning.specs.Objects.{file, local, result}
use Rattle.pk_meaning.specs.Programs.{block_of}
use Rattle.pk_lower.specs.Parts.{body_at}
use Rattle.pk_lower_laws.proofs.Drafts.Plans.{body_at_is}
use Rattle.pk_lower_laws.proofs.Drafts.Each.{PartOf, objects_of}
use Rattle.pk_visits.proofs.Numbered.Runs.{HaveKinds}
use Rattle.pk_visits_laws.proofs.Followed.Basics.{all_get}
use Rattle.pk_visits_laws.proofs.Followed.Paths.{function_is, block_is}
use Rattle.pk_visits_laws.proofs.Followed.Pairs.{whole, world, AreTyped}
use Rattle.pk_visits_laws.proofs.Followed.Naming.{Made, ends_many, returns_is}
use Rattle.pk_visits_laws.proofs.Followed.Graphs.{program_of}
use Rattle.pk_typed.specs.Defaults.{length_of_start}

-- ---- kinds

file_kind : (xs : List FileObjectTree) (i : ℕ) (x : FileObjectTree) → slice_get xs i ≡ Some x → IsStart x.int_type x.start
    → (n : Kind) × (option_map (λ (y : FileObjectTree). record { int_type = y.int_type; length = length_of_start y.start }) (slice_get xs i) ≡ Some n) × (0 < count_of n.length)
file_kind xs i x e h = (record { int_type = x.int_type; length = length_of_start x.start }, ap (option_map (λ (y : FileObjectTree). record { int_type = y.int_type; length = length_of_start y.start })) e, some x.start h) where
  some : (s : StartTree) → IsStart x.int_type s → 0 < count_of (length_of_start s)
  some (scalar_start z) h = omega arith
  some (array_start n zs) h = let k = h.2 in omega (k, arith)

some_file : (xs : List FileObjectTree) (i : ℕ) → i < length xs → (x : FileObjectTree) × (slice_get xs i ≡ Some x)
some_file [] i h = absurd (omega (h, arith))
some_file (x ∷ xs) zero h = (x, refl)
some_file (x ∷ xs) (suc i) h = some_file xs i (omega (h, arith))

-- the objects of a path's function, as its context and its block have them
pub locals_same : (u : UnitTree) (paths : List CallPath) (k : ℕ) (p : PartOf (world u paths) (whole u paths) k) → (body_at u p.path.function).locals ≡ (block_of (program_of u paths) k).locals
locals_same u paths k p =
    ap (λ (b : BodyTree). b.locals) (body_at_is u p.path.function p.place.function p.place.body p.place.there p.place.has) ∙ sym (ap (λ (b : BodyTree). b.locals) (block_is (world u paths) k p.first p.path p.place))

pub have_kinds : (u : UnitTree) (paths : List CallPath) → IsUnit u → AreTyped u paths → HaveKinds (Made u paths) (program_of u paths)
have_kinds u paths unit h (file i) m =
    let f = some_file u.objects i m.1.1 in
    file_kind u.objects i f.0 f.1 (all_get (λ (x : FileObjectTree). IsStart x.int_type x.start) u.objects i f.0 unit.objects f.1)
have_kinds u paths unit h (local k i) m =
    let p = h.parts k m.1.path in
    let many = ends_many u paths k p in
    let c = m.1.declared in
    let o = objects_of (world u paths) h.lasts (whole u paths) k p in
    let kind = o.kinds i (omega (c, many, arith)) in
    (kind.0, (m.1.path, subst (λ (xs : List LocalTree). kind_among xs i ≡ Some kind.0) (locals_same u paths k p) kind.1), kind.2)
have_kinds u paths unit h (result k) m =
    let p = h.parts k m.1.path in
    (scalar_kind m.1.type, (m.1.path, m.1.type, ap (λ (g : FunctionTree). g.returns) (function_is (world u paths) k p.first p.path p.place) ∙ (sym (returns_is u paths k p) ∙ m.1.returns), refl), omega arith)
