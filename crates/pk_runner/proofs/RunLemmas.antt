-- What an answer says of the step that gave it.
use Rattle.std.proofs.Common.{◌≡◌, ◌≢◌, ◌<◌, ◌+◌, ℕ, suc, refl, ap, ◌∙◌, sym, List, [], ◌∷◌, length, drop, get_or, subst, Bool, true, Option, Some, None}
use Rattle.std.specs.Prelude.{if◌then◌else◌, option_map, IfSome}
use Rattle.pk_ctypes.specs.declared.types.IntType.{IntType}
use Rattle.pk_graph.specs.Steps.{Numbers}
use Rattle.pk_meaning.specs.Programs.{Program}
use Rattle.std.proofs.lemmas.List.{drop_more}
use Rattle.pk_meaning.specs.Steps.{Config, Next, To, Faulted, Assumed, Returned, Wants, Stuck, step}
use Rattle.pk_runner_state.specs.declared.states.Answer.{Answer}
use Rattle.pk_runner_state.specs.declared.states.Answer.TheVariants as answers
use Rattle.pk_runner_frame.specs.Frames.{Reading}
use Rattle.pk_runner_state.specs.Shown.{Outcome, outcome, told, Agrees}
use Rattle.pk_runner.specs.declared.runs.Config as code_config
use Rattle.pk_runner.specs.Ran.{rows_of, config_in, is_wanting, on_from, picked, ran}

pub answer_is : (r : Answer) (c : Config) → (told r c).answer ≡ r
answer_is answers.Next c = refl
answer_is (answers.Faulted f at) c = refl
answer_is answers.Assumed c = refl
answer_is (answers.Returned z) c = refl
answer_is (answers.Wants t n) c = refl
answer_is answers.Stuck c = refl

-- the answer of a step
answered : (r : Answer) (n : Next) (c d : Config) → told r d ≡ outcome n c → r ≡ (outcome n c).answer
answered r n c d h = sym (answer_is r d) ∙ ap (λ (o : Outcome). o.answer) h

pub goes_on : (n : Next) (c d : Config) → told answers.Next d ≡ outcome n c → n ≡ To d
goes_on (To e) c d h = let g : Some d ≡ Some e = ap (λ (o : Outcome). o.after) h in cc g
goes_on (Faulted f at) c d h = absurd (cc (answered answers.Next (Faulted f at) c d h))
goes_on Assumed c d h = absurd (cc (answered answers.Next Assumed c d h))
goes_on (Returned z) c d h = absurd (cc (answered answers.Next (Returned z) c d h))
goes_on (Wants t n) c d h = absurd (cc (answered answers.Next (Wants t n) c d h))
goes_on Stuck c d h = absurd (cc (answered answers.Next Stuck c d h))

pub ends : (r : Answer) (n : Next) (c d : Config) (f : Config → Outcome) → r ≢ answers.Next → told r d ≡ outcome n c → told r d ≡ on_from n c f
ends r (To e) c d f x h = absurd (x (answered r (To e) c d h))
ends r (Faulted g at) c d f x h = h
ends r Assumed c d f x h = h
ends r (Returned z) c d f x h = h
ends r (Wants t n) c d f x h = h
ends r Stuck c d f x h = h

-- where numbers are wanted the run stays
pub waits : (t : IntType) (k : ℕ) (n : Next) (c d : Config) → told (answers.Wants t k) d ≡ outcome n c → (is_wanting n ≡ true) × (d ≡ c)
waits t k (To e) c d h = absurd (cc (answered (answers.Wants t k) (To e) c d h))
waits t k (Faulted f at) c d h = absurd (cc (answered (answers.Wants t k) (Faulted f at) c d h))
waits t k Assumed c d h = absurd (cc (answered (answers.Wants t k) Assumed c d h))
waits t k (Returned z) c d h = absurd (cc (answered (answers.Wants t k) (Returned z) c d h))
waits t k (Wants u j) c d h = let g : Some d ≡ Some c = ap (λ (o : Outcome). o.after) h in (refl, cc g)
waits t k Stuck c d h = absurd (cc (answered (answers.Wants t k) Stuck c d h))

-- a step with the next of the choices
pub with_next : (p : Program) (chs : List Numbers) (i : ℕ) (d : Numbers) (c : Config) → i < length chs → is_wanting (step p [] c) ≡ true → picked p (drop i chs) c ≡ (step p (get_or chs i d) c, drop (i + 1) chs)
with_next p chs i d c l w =
    ap (λ (zs : List Numbers). picked p zs c) (drop_more chs i d l)
    ∙ ap (λ (b : Bool). if b then (step p (get_or chs i d) c, drop (i + 1) chs) else (step p [] c, get_or chs i d ∷ drop (i + 1) chs)) w

-- one step more
pub one_more : (p : Program) (m n : ℕ) (chs : List Numbers) (c : Config) → m ≡ suc n → ran p m chs c ≡ on_from (picked p chs c).0 c (λ d. ran p n (picked p chs c).1 d)
one_more p m n chs c e = ap (λ (k : ℕ). ran p k chs c) e

-- where a run begins, or doesn't
pub not_begun : (o : Option code_config.Config) (m : Option Config) (f : Config → Answer) → ((s : Reading) → IfSome o (λ d. Agrees s (rows_of d)) → option_map (config_in s) o ≡ m) → o ≡ None
    → None ≡ option_map f m
not_begun o m f h e =
    let s : Reading = λ i. [] in
    let P : Option code_config.Config → Type 0 = λ x. IfSome x (λ d. Agrees s (rows_of d)) in
    ap (λ (x : Option code_config.Config). option_map f (option_map (config_in s) x)) (sym e) ∙ ap (option_map f) (h s (subst P (sym e) tt))

pub begun_so : (o : Option code_config.Config) (m : Option Config) (f : Config → Answer) (d : code_config.Config) (s : Reading) → ((r : Reading) → IfSome o (λ e. Agrees r (rows_of e)) → option_map (config_in r) o ≡ m)
    → o ≡ Some d → Agrees s (rows_of d) → Some (f (config_in s d)) ≡ option_map f m
begun_so o m f d s h e a =
    let P : Option code_config.Config → Type 0 = λ x. IfSome x (λ b. Agrees s (rows_of b)) in
    ap (λ (x : Option code_config.Config). option_map f (option_map (config_in s) x)) (sym e) ∙ ap (option_map f) (h s (subst P (sym e) a))
