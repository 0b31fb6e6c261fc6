-- The text of a log is that of its values, one behind the other.
use Rattle.std.proofs.Common.{◌≡◌, ℕ, suc, ◌+◌, ◌<◌, List, [], ◌∷◌, ◌++◌, length, get_or, drop, refl, sym, ap, ◌∙◌, Bool, true, false, append_assoc, map, add-one, drop-cons}
use Rattle.std.specs.Prelude.{codes}
use Rattle.std.specs.List.{flat_map}
use Rattle.pk_findings.specs.Shown.{ShownOf}
use Rattle.pk_findings.specs.Refused.{RefusedOf}
use Rattle.serde_json.specs.Data.{Data, array}
use Rattle.serde_json.specs.View.{items_of}
use Rattle.serde_json.specs.Written.{compact_text, items_text, comma_if}
use Rattle.json.specs.Print.{escape_byte}
use Rattle.pk_sarif.specs.Rules.{tool}
use Rattle.pk_sarif.specs.Logs.{artifact, invocation, all_results, run, log}
use Rattle.pk_sarif.specs.Texts.{listed, is_later}

still_later : (ds : List Data) → is_later true ds ≡ true
still_later [] = refl
still_later (d ∷ ds) = refl

listed_append : (later : Bool) (xs ys : List Data) → listed later (xs ++ ys) ≡ listed later xs ++ listed (is_later later xs) ys
listed_append later [] ys = refl
listed_append later (d ∷ xs) ys =
    ap (λ (l : List ℕ). comma_if later ++ (compact_text d ++ l))
    (listed_append true xs ys ∙ ap (λ (b : Bool). listed true xs ++ listed b ys) (still_later xs))
    ∙ ap (λ (l : List ℕ). comma_if later ++ l) (sym (append_assoc (compact_text d) (listed true xs) (listed true ys)))
    ∙ sym (append_assoc (comma_if later) (compact_text d ++ listed true xs) (listed true ys))

later_append : (later : Bool) (xs ys : List Data) → is_later later (xs ++ ys) ≡ is_later (is_later later xs) ys
later_append later [] ys = refl
later_append later (d ∷ xs) ys = sym (still_later ys)

-- those of one item of a list more
some_more : {A : Type 0} (of : A → List Data) (xs : List A) (k : ℕ) (a : A) → k < length xs → a ≡ get_or xs k a →
    flat_map of (drop k xs) ≡ of a ++ flat_map of (drop (k + 1) xs)
some_more of xs k a h at =
    ap (flat_map of) (drop-cons xs k a h ∙ ap (λ x. x ∷ drop (suc k) xs) (sym at))
    ∙ ap (λ (n : ℕ). of a ++ flat_map of (drop n xs)) (sym (add-one k))

pub next_text : {A : Type 0} (of : A → List Data) (xs : List A) (k : ℕ) (a : A) (there then_there : Bool) (old new whole : List ℕ) →
    k < length xs → a ≡ get_or xs k a → new ≡ old ++ listed there (of a) → then_there ≡ is_later there (of a) →
    old ++ listed there (flat_map of (drop k xs)) ≡ whole → new ++ listed then_there (flat_map of (drop (k + 1) xs)) ≡ whole
next_text of xs k a there then_there old new whole h at added later so_far =
    let rest : List Data = flat_map of (drop (k + 1) xs) in
    ap (λ (l : List ℕ). l ++ listed then_there rest) added
    ∙ append_assoc old (listed there (of a)) (listed then_there rest)
    ∙ ap (λ (b : Bool). old ++ (listed there (of a) ++ listed b rest)) later
    ∙ ap (λ (l : List ℕ). old ++ l) (sym (listed_append there (of a) rest))
    ∙ ap (λ (ds : List Data). old ++ listed there ds) (sym (some_more of xs k a h at))
    ∙ so_far

pub next_later : {A : Type 0} (of : A → List Data) (xs : List A) (k : ℕ) (a : A) (there then_there whole : Bool) →
    k < length xs → a ≡ get_or xs k a → then_there ≡ is_later there (of a) →
    is_later there (flat_map of (drop k xs)) ≡ whole → is_later then_there (flat_map of (drop (k + 1) xs)) ≡ whole
next_later of xs k a there then_there whole h at later so_far =
    let rest : List Data = flat_map of (drop (k + 1) xs) in
    ap (λ (b : Bool). is_later b rest) later
    ∙ sym (later_append there (of a) rest)
    ∙ ap (is_later there) (sym (some_more of xs k a h at))
    ∙ so_far

-- an array's text has the bracket that closes it behind its values
items_are : (later : Bool) (ds : List Data) → items_text later (items_of ds) ≡ listed later ds ++ codes "]"
items_are later [] = refl
items_are later (d ∷ ds) =
    ap (λ (l : List ℕ). comma_if later ++ (compact_text d ++ l)) (items_are true ds)
    ∙ ap (λ (l : List ℕ). comma_if later ++ l) (sym (append_assoc (compact_text d) (listed true ds) (codes "]")))
    ∙ sym (append_assoc (comma_if later) (compact_text d ++ listed true ds) (codes "]"))

abbrev pub artifacts_text : List ShownOf → List ℕ
artifacts_text shown = compact_text (array (items_of (map artifact shown)))

-- what a run's text is made of
abbrev run_text : (artifacts invocation results tool : List ℕ) → List ℕ
run_text artifacts invocation results tool =
    codes "{\"artifacts\":" ++ (artifacts ++ (codes ",\"invocations\":[" ++ (invocation ++ (codes "],\"results\":[" ++ (results ++
    (codes "],\"tool\":" ++ (tool ++ codes "}")))))))

closed : (open_bracket text bracket rest : List ℕ) → (open_bracket ++ (text ++ bracket)) ++ rest ≡ open_bracket ++ (text ++ (bracket ++ rest))
closed open_bracket text bracket rest = simp append_assoc

run_is : (shown : List ShownOf) (refused : List RefusedOf) →
    compact_text (run shown refused) ≡ run_text (artifacts_text shown) (compact_text (invocation refused)) (listed false (all_results shown)) (compact_text tool)
unfolding escape_byte
run_is shown refused =
    let a : List ℕ = artifacts_text shown in
    let i : List ℕ = compact_text (invocation refused) in
    let behind : List ℕ = codes ",\"tool\":" ++ (compact_text tool ++ codes "}") in
    let before : List ℕ → List ℕ = λ l. codes "{\"artifacts\":" ++ (a ++ (codes ",\"invocations\":[" ++ (i ++ (codes "],\"results\":[" ++ l)))) in
    ap (λ (l : List ℕ). codes "{\"artifacts\":" ++ (a ++ (codes ",\"invocations\":" ++ l)))
    (closed (codes "[") i (codes "]") (codes ",\"results\":" ++ ((codes "[" ++ items_text false (items_of (all_results shown))) ++ behind)))
    ∙ ap before (ap (λ (l : List ℕ). l ++ behind) (items_are false (all_results shown)) ∙ append_assoc (listed false (all_results shown)) (codes "]") behind)

-- the text of a log, in pieces
log_parts : (front a artifacts b invocation c results d tool e back : List ℕ) →
    front ++ ((a ++ (artifacts ++ (b ++ (invocation ++ (c ++ (results ++ (d ++ (tool ++ e)))))))) ++ back) ≡
    (front ++ a) ++ (artifacts ++ (b ++ (invocation ++ (c ++ (results ++ (d ++ (tool ++ (e ++ back))))))))
log_parts front a artifacts b invocation c results d tool e back = simp append_assoc

pub log_is : (shown : List ShownOf) (refused : List RefusedOf) →
    compact_text (log shown refused) ≡
    codes "{\"$schema\":\"https://json.schemastore.org/sarif-2.1.0.json\",\"runs\":[{\"artifacts\":" ++ (artifacts_text shown ++
    (codes ",\"invocations\":[" ++ (compact_text (invocation refused) ++ (codes "],\"results\":[" ++ (listed false (all_results shown) ++
    (codes "],\"tool\":" ++ (compact_text tool ++ codes "}],\"version\":\"2.1.0\"}")))))))
unfolding escape_byte
log_is shown refused =
    let back : List ℕ = codes "],\"version\":\"2.1.0\"}" in
    let front : List ℕ = codes "{\"$schema\":\"https://json.schemastore.org/sarif-2.1.0.json\",\"runs\":[" in
    ap (λ (l : List ℕ). front ++ l)
    (append_assoc (compact_text (run shown refused)) (codes "]") (codes ",\"version\":\"2.1.0\"}")
    ∙ ap (λ (l : List ℕ). l ++ back) (run_is shown refused))
    ∙ log_parts front (codes "{\"artifacts\":") (artifacts_text shown) (codes ",\"invocations\":[") (compact_text (invocation refused))
    (codes "],\"results\":[") (listed false (all_results shown)) (codes "],\"tool\":") (compact_text tool) (codes "}") back

pieces : (s a b c d e f g h : List ℕ) → ((((((((s ++ a) ++ b) ++ c) ++ d) ++ e) ++ f) ++ g) ++ h) ≡ s ++ (a ++ (b ++ (c ++ (d ++ (e ++ (f ++ (g ++ h)))))))
pieces s a b c d e f g h = simp append_assoc

-- what is written piece by piece
pub written : (s a b c d e f g h b0 b1 b2 b3 b4 b5 b6 b7 b8 : List ℕ) → b0 ≡ s → b1 ≡ b0 ++ a → b2 ≡ b1 ++ b → b3 ≡ b2 ++ c → b4 ≡ b3 ++ d →
    b5 ≡ b4 ++ e → b6 ≡ b5 ++ f → b7 ≡ b6 ++ g → b8 ≡ b7 ++ h → b8 ≡ s ++ (a ++ (b ++ (c ++ (d ++ (e ++ (f ++ (g ++ h)))))))
written s a b c d e f g h b0 b1 b2 b3 b4 b5 b6 b7 b8 e0 e1 e2 e3 e4 e5 e6 e7 e8 =
    rw (e8, e7, e6, e5, e4, e3, e2, e1, e0) (pieces s a b c d e f g h)
