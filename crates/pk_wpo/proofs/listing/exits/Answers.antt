use Rattle.std.proofs.Common.{◌≡◌, ◌≤◌, ◌+◌, ◌++◌, ◌∷◌, [], ℕ, Bool, true, false, cond, List, length, get_or, map, filter, take, ap, sym, arith, ◌∙◌, w32, length-take}
use Rattle.std.specs.List.{range_with_len}
use Rattle.std.proofs.Math.Facts.{Fits-of_lt}
use Rattle.std.proofs.lemmas.List.Sums.{length-filter, count_by-le-length}
use Rattle.std.proofs.lemmas.List.Filters.{length-filter_more}
use Rattle.std.proofs.lemmas.List.FromFn.{map-range_with_len_more}
use Rattle.pk_wpo.proofs.listing.exits.Goals as goal

-- how many tests are true among the first
trues_few : (tests : List Bool) (i : ℕ) → i ≤ length tests → length (filter (λ (b : Bool). b) (take i tests)) ≤ i
trues_few tests i below =
    let count = length-filter (λ (b : Bool). b) (take i tests) in
    let few = count_by-le-length (λ (b : Bool). b) (take i tests) in
    let taken = length-take i tests in
    omega (arith, count, few, taken, below)

one_small : (yes' : Bool) → cond yes' 1 0 ≤ 1
one_small true = omega arith
one_small false = omega arith

-- the number at k
number_at : List Bool → ℕ → ℕ
number_at tests k = length tests + length (filter (λ (b : Bool). b) (take k tests))

pub overflow_add-next : goal.overflow_add-next
overflow_add-next c =
    let few = trues_few c.args.heads.now c.loop-head.head-index (omega arith) in
    let one = one_small (get_or c.args.heads.now c.loop-head.head-index false) in
    let added = c.one_if-next.ensures in
    Fits-of_lt {w = w32} (omega (arith, few, added, c.loop-head.invariant.next_number, c.requires, one))

pub loop-head-preserved : goal.loop-head-preserved
loop-head-preserved c =
    let tests = c.args.heads.now in
    let i = c.loop-head.head-index in
    let F : ℕ → ℕ = λ k. length tests + length (filter (λ (b : Bool). b) (take k tests)) in
    record {
      numbers =
          c.in_ok-push.ensures.items
          ∙ ap (λ (xs : List ℕ). xs ++ c.loop-head.next ∷ []) c.loop-head.invariant.numbers
          ∙ ap (λ (n : ℕ). map F (range_with_len 0 i) ++ n ∷ []) c.loop-head.invariant.next_number
          ∙ sym (map-range_with_len_more F 0 i i (omega arith));
      next_number =
          let step = length-filter_more (λ (b : Bool). b) tests i false c.loop-head-test.true in
          omega (arith, step, c.one_if-next.ensures, c.loop-head.invariant.next_number);
    }

pub returns : goal.returns
returns c =
    let tests = c.args.heads.now in
    let i = c.loop-head.head-index in
    let F : ℕ → ℕ = λ k. length tests + length (filter (λ (b : Bool). b) (take k tests)) in
    let all : i ≡ length tests = omega arith in
    c.in_ok-push-2.ensures.items
    ∙ ap (λ (xs : List ℕ). xs ++ c.loop-head.next ∷ []) c.loop-head.invariant.numbers
    ∙ ap (λ (n : ℕ). map F (range_with_len 0 i) ++ n ∷ []) c.loop-head.invariant.next_number
    ∙ sym (map-range_with_len_more F 0 i i (omega arith))
    ∙ ap (λ (n : ℕ). map F (range_with_len 0 (n + 1))) all
