-- What a number stands for when frames are laid and taken away.
use Rattle.std.proofs.Common.{◌≡◌, ◌<◌, ◌≤◌, ◌+◌, ℕ, refl, ap, ◌∙◌, sym, subst, arith, nat_eq, true, false, ◌≢◌, ◌⊎◌, inl, inr, List, [], ◌∷◌, ◌++◌, length, take, drop, get_or, min}
use Rattle.std.proofs.lemmas.List.{append_assoc, length-append, length-take, length-take-le, take-append-drop, get_or_append_left, get_or_push, get_or_past, drop_more}
use Rattle.std.proofs.lemmas.Bool.{cases_lt}
use Rattle.std.proofs.lemmas.Bool.Decides.{eqb_tells}
use Rattle.std.specs.Prelude.{Result, Ok, Err, Option, Some, None, IfOk, OnOk, MatchOption}
use Rattle.pk_meaning.specs.Work as work
use Rattle.pk_runner_frame.specs.declared.works.Frame.{Frame}
use Rattle.pk_runner_frame.specs.declared.works.Frame.TheVariants as frames
use Rattle.pk_runner_frame.specs.declared.works.Work as code_work
use Rattle.pk_runner_frame.specs.declared.works.Ahead as code_ahead
use Rattle.pk_runner_frame.specs.Frames.{Reading, Held, nothing, work_of, ahead_of, work_at, ahead_at, work_in, ahead_in, held_in, held_behind, held}

length_behind : (s : Reading) (hs : List Held) (fs : List Frame) → length (held_behind s hs fs) ≡ length hs + length fs
length_behind s hs [] = omega arith
length_behind s hs (f ∷ fs) =
    length_behind s (hs ++ held_in s hs f ∷ []) fs ∙ (ap (λ (n : ℕ). n + length fs) (length-append hs (held_in s hs f ∷ [])) ∙ omega arith)

zero_plus : (n : ℕ) → 0 + n ≡ n
zero_plus n = omega arith

pub length_held : (s : Reading) (fs : List Frame) → length (held s fs) ≡ length fs
unfolding held
length_held s fs = length_behind s [] fs ∙ zero_plus (length fs)

append_behind : (s : Reading) (hs : List Held) (fs gs : List Frame) → held_behind s hs (fs ++ gs) ≡ held_behind s (held_behind s hs fs) gs
append_behind s hs [] gs = refl
append_behind s hs (f ∷ fs) gs = append_behind s (hs ++ held_in s hs f ∷ []) fs gs

pub held_snoc : (s : Reading) (fs : List Frame) (f : Frame) → held s (fs ++ f ∷ []) ≡ held s fs ++ held_in s (held s fs) f ∷ []
unfolding held
held_snoc s fs f = append_behind s [] fs (f ∷ [])

behind_keeps : (s : Reading) (hs : List Held) (fs : List Frame) (i : ℕ) (d : Held) → i < length hs → get_or (held_behind s hs fs) i d ≡ get_or hs i d
behind_keeps s hs [] i d h = refl
behind_keeps s hs (f ∷ fs) i d h =
    behind_keeps s (hs ++ held_in s hs f ∷ []) fs i d (let e : length (hs ++ held_in s hs f ∷ []) ≡ length hs + 1 = length-append hs (held_in s hs f ∷ []) in omega (arith, e, h))
    ∙ get_or_append_left hs (held_in s hs f ∷ []) d i h

-- what stands below stays
pub below_stays : (s : Reading) (fs gs : List Frame) (i : ℕ) (d : Held) → i < length fs → get_or (held s (fs ++ gs)) i d ≡ get_or (held s fs) i d
unfolding held
below_stays s fs gs i d h =
    ap (λ (hs : List Held). get_or hs i d) (append_behind s [] fs gs)
    ∙ behind_keeps s (held_behind s [] fs) gs i d (subst (λ (n : ℕ). i < n) (sym (length_held s fs)) h)

pub take_stays : (s : Reading) (fs : List Frame) (n i : ℕ) (d : Held) → i < n → n ≤ length fs → get_or (held s (take n fs)) i d ≡ get_or (held s fs) i d
take_stays s fs n i d h k =
    sym (below_stays s (take n fs) (drop n fs) i d (subst (λ (m : ℕ). i < m) (sym (length-take-le n fs k)) h))
    ∙ ap (λ (gs : List Frame). get_or (held s gs) i d) (take-append-drop n fs)

-- the frame on top
pub top_is : (s : Reading) (fs : List Frame) (f : Frame) (n : ℕ) (d : Held) → n ≡ length fs → get_or (held s (fs ++ f ∷ [])) n d ≡ held_in s (held s fs) f
top_is s fs f n d e =
    ap (λ (hs : List Held). get_or hs n d) (held_snoc s fs f)
    ∙ get_or_push (held s fs) (held_in s (held s fs) f) d n (length_held s fs ∙ sym e)

-- a frame by those below it
pub frame_is : (s : Reading) (fs : List Frame) (n : ℕ) (f : Frame) (d : Held) → n < length fs → f ≡ get_or fs n f → get_or (held s fs) n d ≡ held_in s (held s (take n fs)) f
frame_is s fs n f d h e =
    let split : fs ≡ (take n fs ++ f ∷ []) ++ drop (n + 1) fs =
    sym (take-append-drop n fs) ∙ (ap (λ (gs : List Frame). take n fs ++ gs) (drop_more fs n f h ∙ ap (λ (g : Frame). g ∷ drop (n + 1) fs) (sym e)) ∙ sym (append_assoc (take n fs) (f ∷ []) (drop (n + 1) fs))) in
    let count : length (take n fs) ≡ n = length-take-le n fs (omega (arith, h)) in
    let more : length (take n fs ++ f ∷ []) ≡ length (take n fs) + 1 = length-append (take n fs) (f ∷ []) in
    ap (λ (gs : List Frame). get_or (held s gs) n d) split
    ∙ (below_stays s (take n fs ++ f ∷ []) (drop (n + 1) fs) n d (omega (arith, count, more))
    ∙ top_is s (take n fs) f n d (sym count))

pub past_is : (s : Reading) (fs : List Frame) (n : ℕ) (d : Held) → length fs ≤ n → get_or (held s fs) n d ≡ d
past_is s fs n d h = get_or_past (held s fs) n d (subst (λ (m : ℕ). m ≤ n) (sym (length_held s fs)) h)

-- a frame that holds nothing changes nothing
pub nothing_more : (s : Reading) (fs : List Frame) (f : Frame) (i : ℕ) → held_in s (held s fs) f ≡ nothing → get_or (held s (fs ++ f ∷ [])) i nothing ≡ get_or (held s fs) i nothing
nothing_more s fs f i e = told (cases_lt i (length fs))
  where
    at : ((nat_eq i (length fs) ≡ true) × (i ≡ length fs)) ⊎ ((nat_eq i (length fs) ≡ false) × (i ≢ length fs)) → length fs ≤ i → get_or (held s (fs ++ f ∷ [])) i nothing ≡ get_or (held s fs) i nothing
    at (inl h) k = top_is s fs f i nothing h.1 ∙ (e ∙ sym (past_is s fs i nothing k))
    at (inr h) k =
        let more : length (fs ++ f ∷ []) ≡ length fs + 1 = length-append fs (f ∷ []) in
        past_is s (fs ++ f ∷ []) i nothing (omega (arith, more, k, h.1)) ∙ sym (past_is s fs i nothing k)

    told : (i < length fs) ⊎ (length fs ≤ i) → get_or (held s (fs ++ f ∷ [])) i nothing ≡ get_or (held s fs) i nothing
    told (inl h) = below_stays s fs (f ∷ []) i nothing h
    told (inr h) = at (eqb_tells i (length fs)) h

-- ---- where a call answers

pub if_both : {A E : Type 0} (r : Result A E) (P : Type 0) (Q R : A → Type 0) → ((x : A) → P → Q x → R x) → OnOk r P → IfOk r Q → IfOk r R
if_both (Ok x) P Q R f p q = f x p q
if_both (Err e) P Q R f p q = q

pub if_map : {A E : Type 0} (r : Result A E) (Q R : A → Type 0) → ((x : A) → Q x → R x) → IfOk r Q → IfOk r R
if_map (Ok x) Q R f q = f x q
if_map (Err e) Q R f q = q

pub match_map : {A : Type 0} (r : Option A) (P P' : Type 0) (Q Q' : A → Type 0) → (P → P') → ((x : A) → Q x → Q' x) → MatchOption r P Q → MatchOption r P' Q'
match_map None P P' Q Q' f g p = f p
match_map (Some x) P P' Q Q' f g p = g x p

pub on_map : {A E : Type 0} (r : Result A E) (P Q : Type 0) → (P → Q) → OnOk r P → OnOk r Q
on_map (Ok x) P Q f p = f p
on_map (Err e) P Q f p = p

-- ---- the calls

pub laid_work : (s : Reading) (fs gs : List Frame) (w : code_work.Work) (n : ℕ) → gs ≡ fs ++ frames.Work w ∷ [] → n ≡ length fs → work_at (held s gs) n ≡ work_in s (held s fs) w
laid_work s fs gs w n e f = ap (λ (xs : List Frame). work_at (held s xs) n) e ∙ ap work_of (top_is s fs (frames.Work w) n nothing f)

pub laid_ahead : (s : Reading) (fs gs : List Frame) (a : code_ahead.Ahead) (n : ℕ) → gs ≡ fs ++ frames.Ahead a ∷ [] → n ≡ length fs → ahead_at (held s gs) n ≡ ahead_in s (held s fs) a
laid_ahead s fs gs a n e f = ap (λ (xs : List Frame). ahead_at (held s xs) n) e ∙ ap ahead_of (top_is s fs (frames.Ahead a) n nothing f)

pub laid_way : (s : Reading) (fs gs : List Frame) (a : code_ahead.Ahead) (n : ℕ) → gs ≡ fs ++ frames.Ahead a ∷ [] → n ≡ length fs → work_at (held s gs) n ≡ work.Go (ahead_in s (held s fs) a)
laid_way s fs gs a n e f = ap (λ (xs : List Frame). work_at (held s xs) n) e ∙ ap work_of (top_is s fs (frames.Ahead a) n nothing f)

pub laid_below : (s : Reading) (fs gs : List Frame) (f : Frame) (i : ℕ) → gs ≡ fs ++ f ∷ [] → i < length fs → work_at (held s gs) i ≡ work_at (held s fs) i
laid_below s fs gs f i e h = ap (λ (xs : List Frame). work_at (held s xs) i) e ∙ ap work_of (below_stays s fs (f ∷ []) i nothing h)

pub taken_work : (s : Reading) (fs gs : List Frame) (n : ℕ) (f : Frame) (w : code_work.Work) → n < length fs → f ≡ get_or fs n f → f ≡ frames.Work w → gs ≡ take n fs → work_in s (held s gs) w ≡ work_at (held s fs) n
taken_work s fs gs n f w h e g k =
    ap (λ (xs : List Frame). work_in s (held s xs) w) k ∙ sym (ap work_of (frame_is s fs n f nothing h e ∙ ap (held_in s (held s (take n fs))) g))

pub taken_way : (s : Reading) (fs gs : List Frame) (n : ℕ) (f : Frame) (a : code_ahead.Ahead) → n < length fs → f ≡ get_or fs n f → f ≡ frames.Ahead a → gs ≡ take (n + 1) fs →
    work.Go (ahead_at (held s gs) n) ≡ work_at (held s fs) n
taken_way s fs gs n f a h e g k =
    let same : get_or (held s fs) n nothing ≡ held_in s (held s (take n fs)) (frames.Ahead a) = frame_is s fs n f nothing h e ∙ ap (held_in s (held s (take n fs))) g in
    ap (λ (xs : List Frame). work.Go (ahead_at (held s xs) n)) k
    ∙ (ap (λ (x : Held). work.Go (ahead_of x)) (take_stays s fs (n + 1) n nothing (omega arith) (omega (arith, h)) ∙ same) ∙ sym (ap work_of same))

pub taken_ahead : (s : Reading) (fs gs : List Frame) (n : ℕ) (f : Frame) (a : code_ahead.Ahead) → n < length fs → f ≡ get_or fs n f → f ≡ frames.Ahead a → gs ≡ take n fs →
    ahead_in s (held s gs) a ≡ ahead_at (held s fs) n
taken_ahead s fs gs n f a h e g k =
    ap (λ (xs : List Frame). ahead_in s (held s xs) a) k ∙ sym (ap ahead_of (frame_is s fs n f nothing h e ∙ ap (held_in s (held s (take n fs))) g))

-- no ahead stands there
pub not_ahead : (s : Reading) (fs : List Frame) (n : ℕ) (f : Frame) (w : code_work.Work) → n < length fs → f ≡ get_or fs n f → f ≡ frames.Work w → work.End work.Nobody ≡ ahead_at (held s fs) n
not_ahead s fs n f w h e g = sym (ap ahead_of (frame_is s fs n f nothing h e ∙ ap (held_in s (held s (take n fs))) g))

pub way_is : (s : Reading) (fs : List Frame) (n : ℕ) (f : Frame) (a : code_ahead.Ahead) → n < length fs → f ≡ get_or fs n f → f ≡ frames.Ahead a → work_at (held s fs) n ≡ work.Go (ahead_at (held s fs) n)
way_is s fs n f a h e g =
    let same : get_or (held s fs) n nothing ≡ held_in s (held s (take n fs)) (frames.Ahead a) = frame_is s fs n f nothing h e ∙ ap (held_in s (held s (take n fs))) g in
    ap work_of same ∙ sym (ap (λ (x : Held). work.Go (ahead_of x)) same)

pub no_work : (s : Reading) (fs : List Frame) (n : ℕ) → length fs ≤ n → work.Return work.Nobody ≡ work_at (held s fs) n
no_work s fs n h = sym (ap work_of (past_is s fs n nothing h))

pub no_ahead : (s : Reading) (fs : List Frame) (n : ℕ) → length fs ≤ n → work.End work.Nobody ≡ ahead_at (held s fs) n
no_ahead s fs n h = sym (ap ahead_of (past_is s fs n nothing h))

-- a number below others, in the frames below them
pub below_same : (s : Reading) (fs : List Frame) (limit n : ℕ) → n < limit → limit ≤ length fs → get_or (held s fs) n nothing ≡ get_or (held s (take limit fs)) n nothing
below_same s fs limit n h k = sym (take_stays s fs limit n nothing h k)

pub past_limit : (s : Reading) (fs : List Frame) (limit n : ℕ) → limit ≤ n → nothing ≡ get_or (held s (take limit fs)) n nothing
past_limit s fs limit n h =
    let count : length (take limit fs) ≡ min limit (length fs) = length-take limit fs in
    sym (past_is s (take limit fs) n nothing (omega (arith, count, h)))

-- what comes behind a statement, seen from further out
pub seen : (s : Reading) (fs : List Frame) (limit n : ℕ) (f : Frame) → n < limit → limit ≤ length fs → f ≡ get_or fs n f → ahead_at (held s (take limit fs)) n ≡ ahead_of (held_in s (held s (take n fs)) f)
seen s fs limit n f h k e = ap ahead_of (take_stays s fs limit n nothing h k ∙ frame_is s fs n f nothing (omega (arith, h, k)) e)

pub seen_past : (s : Reading) (fs : List Frame) (limit n : ℕ) → limit ≤ n → ahead_at (held s (take limit fs)) n ≡ work.End work.Nobody
seen_past s fs limit n h = sym (ap ahead_of (past_limit s fs limit n h))
