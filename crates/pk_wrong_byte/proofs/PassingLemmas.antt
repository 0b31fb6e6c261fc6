-- One byte more of a beginning that passes a test, or the end of it.
use Rattle.std.proofs.Common.{◌≡◌, ℕ, suc, ◌+◌, ◌<◌, List, length, take, drop, sym, ap, ◌∙◌, Bool, true, false, cond, add-one, drop-cons, arith}
use Rattle.std.proofs.lemmas.List.{take_more}
use Rattle.pk_wrong_byte.specs.Pieces.{passing}

opened : (test : List ℕ → Bool) (text : List ℕ) (k : ℕ) → k < length text →
    passing test (take k text) (drop k text) ≡
    cond (test (take (k + 1) text)) (suc (passing test (take (k + 1) text) (drop (suc k) text))) 0
opened test text k h =
    ap (passing test (take k text)) (drop-cons text k 0 h)
    ∙ ap (λ (x : List ℕ). cond (test x) (suc (passing test x (drop (suc k) text))) 0) (sym (take_more text k 0 h))

pub stopped : (test : List ℕ → Bool) (text : List ℕ) (k whole : ℕ) → k < length text → test (take (k + 1) text) ≡ false →
    k + passing test (take k text) (drop k text) ≡ whole → k ≡ whole
stopped test text k whole h e so_far =
    let here = opened test text k h ∙ ap (λ (b : Bool). cond b (suc (passing test (take (k + 1) text) (drop (suc k) text))) 0) e in
    omega (arith, here, so_far)

pub passed : (test : List ℕ → Bool) (text : List ℕ) (k whole : ℕ) → k < length text → test (take (k + 1) text) ≡ true →
    k + passing test (take k text) (drop k text) ≡ whole → k + 1 + passing test (take (k + 1) text) (drop (k + 1) text) ≡ whole
passed test text k whole h e so_far =
    let here = opened test text k h
    ∙ ap (λ (b : Bool). cond b (suc (passing test (take (k + 1) text) (drop (suc k) text))) 0) e
    ∙ ap (λ (n : ℕ). suc (passing test (take (k + 1) text) (drop n text))) (sym (add-one k)) in
    omega (arith, here, so_far)
