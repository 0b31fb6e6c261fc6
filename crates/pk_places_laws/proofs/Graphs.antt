-- The names and places of a unit's graph.
use Rattle.std.specs.Prelude.{◌≡◌, ℕ, true, List, [], ◌∷◌, length, map, slice_index_or, slice_get, Option, Some, None, IfSome, All, is_some, option_map, unwrap_or}
use Rattle.std.specs.Option.{option_and_then}
use Rattle.std.proofs.lemmas.Option.{slice_get-get_or}
use Rattle.std.proofs.Common.{arith, sym, subst, ap, ◌∙◌}
use Rattle.std.proofs.lemmas.List.Elements.{All-map, All-filter, All-nil, All-cons}
use Rattle.pk_ctypes.specs.declared.places.Pos.{Pos}
use Rattle.pk_typed.specs.declared.units.CallSite.{CallSite}
use Rattle.pk_typed.specs.Trees.{BodyTree, FunctionTree, UnitTree}
use Rattle.pk_typed.specs.Defaults.{nowhere_in_text}
use Rattle.pk_calls.specs.declared.listings.Caller.{Caller}
use Rattle.pk_calls.specs.declared.listings.CallPath.{CallPath}
use Rattle.pk_calls.specs.Calls.{HasBody, body_of, name_of, calls_of}
use Rattle.pk_calls.specs.CallPaths.{IsCallPath, alone, with_call, StandsFor, entry_alone, called}
use Rattle.pk_calls.specs.Laws.{AreCallPaths}
use Rattle.pk_graph.specs.declared.trees.Site.{Site}
use Rattle.pk_graph.specs.Accesses.{accesses_of}
use Rattle.pk_graph.specs.Graphs.{PathOf, EdgeOf, PointOf}
use Rattle.pk_draft.specs.declared.drafts.Label.{Label}
use Rattle.pk_draft.specs.Drafts.{EdgeFrom, DraftOf, by_number, no_label}
use Rattle.pk_number.specs.Numbering.{is_from, edges_from, edge_of, point_of, reached, numbered}
use Rattle.pk_lower.specs.Parts.{program_draft}
use Rattle.pk_lower.specs.Paths.{place_of, site_of_call, path_of}
use Rattle.pk_lower.specs.Graphs.{graph_of}
use Rattle.pk_places_laws.specs.Places as places
use Rattle.pk_places_laws.specs.Names as names
use Rattle.pk_places_laws.specs.Laws.{PlacesAreTheUnits, NamesAreTheUnits, AccessesAreOnPaths}
use Rattle.pk_places_laws.proofs.Told.{Asked, AtInstr, IsTold, at_or}
use Rattle.pk_places_laws.proofs.Accesses.{IsAt, AreAt, at_points}
use Rattle.pk_places_laws.proofs.Everywhere.{if_some, in_unit}
use Rattle.pk_places_laws.proofs.Parts.{Holds, at_number, at_body, program_told}

-- ---- numbered points

-- of what a function gives of each number
all_of : {A : Type 0} (Q : A → Type 0) (f : ℕ → A) (ns : List ℕ) → ((n : ℕ) → Q (f n)) → All Q (map f ns)
all_of Q f [] h = All-nil Q
all_of Q f (n ∷ ns) h = All-cons Q (f n) (map f ns) (h n) (all_of Q f ns h)

point_place : (w : Asked) (d : DraftOf ℕ) → w.P nowhere_in_text → IsTold w d → (p : ℕ) → w.P (point_of (reached d.edges) d p).at
point_place w d h t p = at_or (λ (l : Label). w.P l.at) d.labels p no_label h t.labels

point_edges : (w : Asked) (d : DraftOf ℕ) → IsTold w d → (p : ℕ) → AreAt w (point_of (reached d.edges) d p).edges
point_edges w d t p =
    All-map (λ (e : EdgeOf). AtInstr w e.instr) (edge_of (reached d.edges)) (edges_from p d.edges)
    (All-filter (is_from p) (λ (e : EdgeFrom ℕ). AtInstr w e.instr) d.edges t.edges)

pub accesses_told : (w : Asked) (paths : List PathOf) (d : DraftOf ℕ) → IsTold w d → All (IsAt w) (accesses_of (numbered paths d))
accesses_told w paths d t =
    at_points w 0 (map (point_of (reached d.edges) d) (reached d.edges))
    (all_of (λ (q : PointOf). AreAt w q.edges) (point_of (reached d.edges) d) (reached d.edges) (point_edges w d t))

-- ---- places

call_places : (P : Pos → Type 0) (o : Option BodyTree) → IfSome o (places.InBody P) → All (λ (s : CallSite). P s.at) (unwrap_or (option_map (λ (b : BodyTree). b.calls) o) [])
call_places P None h = All-nil (λ (s : CallSite). P s.at)
call_places P (Some b) h = h.calls

place_or : (P : Pos → Type 0) (o : Option CallSite) → P nowhere_in_text → IfSome o (λ (s : CallSite). P s.at) → P (unwrap_or (option_map (λ (s : CallSite). s.at) o) nowhere_in_text)
place_or P None h k = h
place_or P (Some s) h k = k

place_is : (P : Pos → Type 0) (u : UnitTree) (f n : ℕ) → P nowhere_in_text → places.InUnit P u → P (place_of u f n)
unfolding calls_of
place_is P u f n h k =
    place_or P (slice_get (calls_of u f) n) h (at_number (λ (s : CallSite). P s.at) (calls_of u f) n (call_places P (body_of u f) (at_body (places.InBody P) u f k)))

site_or : (P : Pos → Type 0) (u : UnitTree) (n : ℕ) (o : Option CallPath) → P nowhere_in_text → places.InUnit P u → P (unwrap_or (option_map (λ (p : CallPath). place_of u p.function n) o) nowhere_in_text)
site_or P u n None h k = h
site_or P u n (Some p) h k = place_is P u p.function n h k

call_is : (P : Pos → Type 0) (u : UnitTree) (paths : List CallPath) (o : Option Caller) → P nowhere_in_text → places.InUnit P u → IfSome (option_map (site_of_call u paths) o) (λ (s : Site). P s.at)
call_is P u paths None h k = tt
call_is P u paths (Some c) h k = site_or P u c.call (slice_get paths c.path) h k

each : {A B : Type 0} (Q : B → Type 0) (f : A → B) (xs : List A) → ((x : A) → Q (f x)) → All Q (map f xs)
each Q f [] h = All-nil Q
each Q f (x ∷ xs) h = All-cons Q (f x) (map f xs) (h x) (each Q f xs h)

pub calls_told : (P : Pos → Type 0) (u : UnitTree) (paths : List CallPath) → P nowhere_in_text → places.InUnit P u → All (λ (p : PathOf). IfSome p.call (λ (s : Site). P s.at)) (graph_of u paths).paths
calls_told P u paths h k = each (λ (p : PathOf). IfSome p.call (λ (s : Site). P s.at)) (path_of u paths) paths (λ p. call_is P u paths p.caller h k)

-- where nothing is asked of names
abbrev places_asked : (P : Pos → Type 0) (n : ℕ) → Asked
places_asked P n = record { P = P; N = λ name. Unit {0}; paths = n }

nothing_named : (o : Option (List ℕ)) → IfSome o (λ name. Unit {0})
nothing_named = if_some (λ name. Unit {0}) (λ name. tt)

locals_any : (b : BodyTree) → names.InLocals (λ name. Unit {0}) b
locals_any b = λ k d l. nothing_named (slice_index_or b.locals k d).name

hold_places : (P : Pos → Type 0) (n : ℕ) (u : UnitTree) → P nowhere_in_text → places.InUnit P u → Holds (places_asked P n) u
hold_places P n u h k = record {
  nowhere = h;
  places = k;
  objects = λ i d l. tt;
  locals = λ i d l. if_some (names.InLocals (λ name. Unit {0})) locals_any (slice_index_or u.functions i d).body;
}

pub places_told : (P : Pos → Type 0) (u : UnitTree) (paths : List CallPath) → P nowhere_in_text → places.InUnit P u → places.InGraph P (graph_of u paths)
places_told P u paths h k =
    let w = places_asked P (length paths) in
    let d = program_draft by_number u paths in
    let t : IsTold w d = program_told ℕ w by_number u paths (hold_places P (length paths) u h k) (omega arith) in
    record {
      points = all_of (λ (q : PointOf). P q.at) (point_of (reached d.edges) d) (reached d.edges) (point_place w d h t);
      calls = calls_told P u paths h k;
      accesses = λ i e l. (accesses_told w (map (path_of u paths) paths) d t i e l).0;
    }

pub places_are_the_units : PlacesAreTheUnits
places_are_the_units u paths test h k = places_told (λ at. test at ≡ true) u paths h k

pub accesses_are_on_paths : AccessesAreOnPaths
accesses_are_on_paths u paths =
    let w = places_asked (λ at. Unit {0}) (length paths) in
    let d = program_draft by_number u paths in
    let t : IsTold w d = program_told ℕ w by_number u paths (hold_places (λ at. Unit {0}) (length paths) u tt (in_unit (λ at. Unit {0}) (λ at. tt) u)) (omega arith) in
    λ i e l. (accesses_told w (map (path_of u paths) paths) d t i e l).1

-- ---- names

abbrev FirstIs : (ℕ → Type 0) → List ℕ → Type 0
FirstIs Q [] = ⊥
FirstIs Q (f ∷ fs) = Q f

first_stands : {paths : List CallPath} {i : ℕ} {fs cs : List ℕ} (Q : ℕ → Type 0) (p : CallPath) → StandsFor paths i fs cs → slice_get paths i ≡ Some p → FirstIs Q fs → Q p.function
first_stands Q p (entry_alone e) h k = subst Q (ap (λ (o : Option CallPath). (unwrap_or o p).function) (sym e ∙ h)) k
first_stands Q p (called s e) h k = subst Q (ap (λ (o : Option CallPath). (unwrap_or o p).function) (sym e ∙ h)) k

first_has : {u : UnitTree} {entry : ℕ} {fs cs : List ℕ} → HasBody u entry → IsCallPath u entry fs cs → FirstIs (HasBody u) fs
first_has h alone = h
first_has h (with_call c e b) = b

-- each path is of a function with a body
pub path_has : (u : UnitTree) (entry : ℕ) (paths : List CallPath) → HasBody u entry → AreCallPaths u entry paths → All (λ (p : CallPath). HasBody u p.function) paths
path_has u entry paths h are k d l =
    let one = are.each_is_one k l in
    first_stands (HasBody u) (slice_index_or paths k d) one.2 (slice_get-get_or paths k d l) (first_has h one.3)

name_in : (N : List ℕ → Type 0) (o : Option FunctionTree) → is_some (option_and_then (λ (g : FunctionTree). g.body) o) ≡ true → IfSome o (names.InFunction N) → N (unwrap_or (option_map (λ (g : FunctionTree). g.name) o) [])
name_in N None h k = absurd (cc h)
name_in N (Some g) h k = k.name

pub name_told : (N : List ℕ → Type 0) (u : UnitTree) (f : ℕ) → HasBody u f → All (names.InFunction N) u.functions → N (name_of u f)
unfolding name_of body_of
name_told N u f h k = name_in N (slice_get u.functions f) h (at_number (names.InFunction N) u.functions f k)

-- where nothing is asked of places
abbrev names_asked : (N : List ℕ → Type 0) (n : ℕ) → Asked
names_asked N n = record { P = λ at. Unit {0}; N = N; paths = n }

hold_names : (N : List ℕ → Type 0) (n : ℕ) (u : UnitTree) → names.InUnit N u → Holds (names_asked N n) u
hold_names N n u h = record {
  nowhere = tt;
  places = in_unit (λ at. Unit {0}) (λ at. tt) u;
  objects = h.objects;
  locals = λ k d l. (h.functions k d l).locals;
}

pub names_told : (N : List ℕ → Type 0) (u : UnitTree) (entry : ℕ) (paths : List CallPath) → HasBody u entry → AreCallPaths u entry paths → names.InUnit N u → names.InGraph N (graph_of u paths)
names_told N u entry paths b are h =
    let w = names_asked N (length paths) in
    let t : IsTold w (program_draft by_number u paths) = program_told ℕ w by_number u paths (hold_names N (length paths) u h) (omega arith) in
    record {
      paths = All-map (λ (p : PathOf). N p.name) (path_of u paths) paths (λ k d l. name_told N u (slice_index_or paths k d).function (path_has u entry paths b are k d l) h.functions);
      variables = t.made;
    }

pub names_are_the_units : NamesAreTheUnits
names_are_the_units u entry paths test b are h = names_told (λ name. test name ≡ true) u entry paths b are h
