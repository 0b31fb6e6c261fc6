use Rattle.std.proofs.Common.{◌≡◌, ◌<◌, ℕ, List, [], ◌∷◌, ◌++◌, ◌+◌, ◌-◌, get_or, drop, take, reverse, ap, sym, ◌∙◌, arith, length, append-nil, Option, Some}
use Rattle.std.proofs.lemmas.List.Elements.{All-push, All-pop}
use Rattle.pk_plan.specs.declared.nests.NestPlace.{NestPlace}
use Rattle.pk_plan.specs.declared.nests.NestPlace.TheVariants.{Vertex, Head, Exit}
use Rattle.pk_wpo.specs.Walks.{first_of, walk_elements, walk_homes}
use Rattle.pk_wpo.proofs.Walked.{taken_over, rest_at, reverse_push, head_at}
use Rattle.pk_wpo.proofs.listing.walked.Goals as goal
use Rattle.pk_wpo.proofs.listing.walked.Goals.{in-Vertex+in_ok-push-in-Vertex+in_ok-push-in-Vertex-2, in-Head+in_ok-push-in-Head+in_ok-push-in-Head-2+in_ok-push-in-Head-3, in-Exit+in-Some+in_ok-push-in-Exit+in_ok-push-in-Exit-2, in-Exit+in_default}

pushed : (old new : List (Option ℕ)) (a b : Option ℕ) → a ≡ b → new ≡ old ++ a ∷ [] → new ≡ old ++ b ∷ []
pushed old new a b same is = is ∙ ap (λ (x : Option ℕ). old ++ x ∷ []) same

pub loop-place-preserved : goal.loop-place-preserved
loop-place-preserved c =
    let ps = c.places-place-items.result.now in
    let i = c.loop-place.place-index in
    let n : ℕ = length c.args.exits.now in
    let opened : List ℕ = c.loop-place.opened.items in
    let exit : ℕ → ℕ = λ (h : ℕ). get_or c.args.exits.now h 0 in
    let elements = c.loop-place.invariant.elements in
    let homes = c.loop-place.invariant.homes in
    let inside = c.loop-place-test.true in
    elim c.match-place.branch [
      | in-Vertex+in_ok-push-in-Vertex+in_ok-push-in-Vertex-2 w ↦
          let rest = rest_at ps i (Vertex 0) (Vertex w.in-Vertex.v) inside w.in-Vertex.is in
          let home : w.innermost.result ≡ first_of (reverse opened) = w.innermost.ensures ∙ ap (λ (xs : List ℕ). first_of (reverse xs)) w.deref.ensures.value in
          rw (w.elements-is, w.homes-is, w.opened-is) (record {
            below = c.loop-place.invariant.below;
            elements = taken_over c.loop-place.elements.items (w.in-Vertex.v ∷ []) _ _ _ _ w.in_ok-push-in-Vertex.ensures.items (ap (λ (qs : List NestPlace). walk_elements exit qs (reverse opened)) rest) elements;
            homes = taken_over c.loop-place.homes.items (first_of (reverse opened) ∷ []) _ _ _ _ (pushed _ _ _ _ home w.in_ok-push-in-Vertex-2.ensures.items) (ap (λ (qs : List NestPlace). walk_homes qs (reverse opened)) rest) homes;
          })
      | in-Head+in_ok-push-in-Head+in_ok-push-in-Head-2+in_ok-push-in-Head-3 w ↦
          let h = w.in-Head.h in
          let rest = rest_at ps i (Vertex 0) (Head h) inside w.in-Head.is in
          let home : w.innermost-in-Head.result ≡ first_of (reverse opened) = w.innermost-in-Head.ensures ∙ ap (λ (xs : List ℕ). first_of (reverse xs)) w.deref-in-Head.ensures.value in
          let more : reverse (opened ++ h ∷ []) ≡ h ∷ reverse opened = reverse_push opened h in
          rw (w.elements-is, w.homes-is, w.opened-is, w.in_ok-push-in-Head-3.ensures.items) (record {
            below = All-push (λ (x : ℕ). x < n) opened h c.loop-place.invariant.below (head_at n ps i (Vertex 0) h (rw c.places-place-items.ensures c.requires) inside w.in-Head.is);
            elements = taken_over c.loop-place.elements.items (h ∷ []) _ _ _ _ w.in_ok-push-in-Head.ensures.items (ap (λ (qs : List NestPlace). walk_elements exit qs (reverse opened)) rest ∙ ap (λ (xs : List ℕ). h ∷ walk_elements exit (drop (i + 1) ps) xs) (sym more)) elements;
            homes = taken_over c.loop-place.homes.items (first_of (reverse opened) ∷ []) _ _ _ _ (pushed _ _ _ _ home w.in_ok-push-in-Head-2.ensures.items) (ap (λ (qs : List NestPlace). walk_homes qs (reverse opened)) rest ∙ ap (λ (xs : List ℕ). first_of (reverse opened) ∷ walk_homes (drop (i + 1) ps) xs) (sym more)) homes;
          })
      | in-Exit+in-Some+in_ok-push-in-Exit+in_ok-push-in-Exit-2 w ↦
          let h = w.in-Some.h in
          let left : List ℕ = w.pop.new.self.items in
          let rest = rest_at ps i (Vertex 0) Exit inside w.in-Exit.is in
          let home : w.innermost-in-Some.result ≡ first_of (reverse left) = w.innermost-in-Some.ensures ∙ ap (λ (xs : List ℕ). first_of (reverse xs)) w.deref-in-Some.ensures.value in
          let fewer : reverse opened ≡ h ∷ reverse left = ap (λ (xs : List ℕ). reverse xs) w.in-Some.ensures.items ∙ reverse_push left h in
          rw (w.elements-is, w.homes-is, w.opened-is) (record {
            below = (All-pop (λ (x : ℕ). x < n) opened left (Some h) w.in-Some.ensures.items c.loop-place.invariant.below).0;
            elements = taken_over c.loop-place.elements.items (exit h ∷ []) _ _ _ _ w.in_ok-push-in-Exit.ensures.items (ap (λ (qs : List NestPlace). walk_elements exit qs (reverse opened)) rest ∙ ap (λ (xs : List ℕ). walk_elements exit (Exit ∷ drop (i + 1) ps) xs) fewer) elements;
            homes = taken_over c.loop-place.homes.items (first_of (reverse left) ∷ []) _ _ _ _ (pushed _ _ _ _ home w.in_ok-push-in-Exit-2.ensures.items) (ap (λ (qs : List NestPlace). walk_homes qs (reverse opened)) rest ∙ ap (λ (xs : List ℕ). walk_homes (Exit ∷ drop (i + 1) ps) xs) fewer) homes;
          })
      | in-Exit+in_default w ↦
          let rest = rest_at ps i (Vertex 0) Exit inside w.in-Exit.is in
          let none : opened ≡ [] = w.in_default.ensures.items ∙ append-nil w.pop.new.self.items ∙ w.in_default.ensures.rest ∙ ap (λ (k : ℕ). take (k - 1) opened) w.in_default.ensures.cases.0 in
          let empty : w.pop.new.self.items ≡ [] = sym (w.in_default.ensures.items ∙ append-nil w.pop.new.self.items) ∙ none in
          let nothing : reverse opened ≡ [] = ap (λ (xs : List ℕ). reverse xs) none in
          rw (w.elements-is, w.homes-is, w.opened-is, empty) (record {
            below = λ k d less. absurd (omega (arith, less));
            elements = ap (λ (xs : List ℕ). c.loop-place.elements.items ++ xs) (sym (ap (λ (qs : List NestPlace). walk_elements exit qs (reverse opened)) rest ∙ ap (λ (xs : List ℕ). walk_elements exit (Exit ∷ drop (i + 1) ps) xs) nothing)) ∙ elements;
            homes = ap (λ (xs : List (Option ℕ)). c.loop-place.homes.items ++ xs) (sym (ap (λ (qs : List NestPlace). walk_homes qs (reverse opened)) rest ∙ ap (λ (xs : List ℕ). walk_homes (Exit ∷ drop (i + 1) ps) xs) nothing)) ∙ homes;
          })
    ]
