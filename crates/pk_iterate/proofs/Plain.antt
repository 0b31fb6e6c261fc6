-- A head is run as a vertex is.
use Rattle.std.proofs.Common.{◌≡◌, ℕ, Bool, List, refl}
use Rattle.pk_plan.specs.declared.places.Role.{Role}
use Rattle.pk_plan.specs.declared.places.Role.TheVariants.{Vertex, Head, Exit}
use Rattle.pk_plan.specs.declared.places.Place.{Place}
use Rattle.pk_iterate.specs.Behaviour.{Behaviour, cell_in_role, cell_made, goes_back_in_role, place_after, LeadsBackWithin}

-- a role, with a head taken as a vertex
abbrev pub plain_role : Role → Role
plain_role Vertex = Vertex
plain_role Head = Vertex
plain_role (Exit back) = Exit back

abbrev pub plain : Place → Place
plain place = record { element = place.element; role = plain_role place.role }

cell_in_role-plain : {C : Type 0} (b : Behaviour C) (e : ℕ) (role : Role) (inputs : List C) → cell_in_role b e (plain_role role) inputs ≡ cell_in_role b e role inputs
cell_in_role-plain b e Vertex inputs = refl
cell_in_role-plain b e Head inputs = refl
cell_in_role-plain b e (Exit back) inputs = refl

pub cell_made-plain : {C : Type 0} (b : Behaviour C) (place : Place) (inputs : List C) → cell_made b (plain place) inputs ≡ cell_made b place inputs
cell_made-plain b place inputs = cell_in_role-plain b place.element place.role inputs

pub goes_back_in_role-plain : {C : Type 0} (b : Behaviour C) (e : ℕ) (role : Role) (inputs : List C) → goes_back_in_role b e (plain_role role) inputs ≡ goes_back_in_role b e role inputs
goes_back_in_role-plain b e Vertex inputs = refl
goes_back_in_role-plain b e Head inputs = refl
goes_back_in_role-plain b e (Exit back) inputs = refl

pub place_after-plain : (at : ℕ) (role : Role) (again : Bool) → place_after at (plain_role role) again ≡ place_after at role again
place_after-plain at Vertex again = refl
place_after-plain at Head again = refl
place_after-plain at (Exit back) again = refl

pub LeadsBackWithin-from_plain : (at : ℕ) (role : Role) → LeadsBackWithin at (plain_role role) → LeadsBackWithin at role
LeadsBackWithin-from_plain at Vertex h = tt
LeadsBackWithin-from_plain at Head h = tt
LeadsBackWithin-from_plain at (Exit back) h = h
