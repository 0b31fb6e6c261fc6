-- Heads, part by part.
use Rattle.std.specs.Prelude.{◌≡◌, ℕ, ◌+◌, ◌<◌, ◌≤◌, ◌^◌, List, [], ◌∷◌, ◌++◌, length, take, drop, replicate, codes}
use Rattle.std.specs.Fmt.{decimal}
use Rattle.std.proofs.Common.{arith, refl, sym, ap, subst, ◌∙◌, append_assoc}
use Rattle.std.proofs.lemmas.List.{append-nil, append_cancel_left, length-append, length-replicate, drop-drop}
use Rattle.pk_cert.specs.Beginnings.{TextsOf, Begins, Leads, IsStop, IsFirstWrong}
use Rattle.pk_cert.specs.declared.heads.Places.{Places}
use Rattle.pk_cert.specs.Heads.{HeadOf, IsHead, head_text, HasHead}
use Rattle.pk_cert.specs.Pieces.{AreFirst, IsBetween, counted, IsName, IsBlock, lined, IsLinedName, Two, FromEntry, FromOct, FromSize, IsNumber, IsSizeRead}
use Rattle.pk_cert.specs.Laws.{HeadsAreTold}
use Rattle.pk_cert.proofs.Stops.{stop_part, stop_leads}
use Rattle.pk_cert.proofs.SymbolLemmas.{counts_told}
use Rattle.pk_cert.proofs.Sequences.{AreTold}
use Rattle.pk_cert.proofs.Parts.{first_fits, two_fail, two_later, names_told, blocks_told, literals_told}

abbrev pub opening : List ℕ
opening = codes "pikos-cert 1 "

abbrev pub Whole : List ℕ → Type 0
Whole = Two (λ (t : List ℕ). t ≡ opening) (λ (t : List ℕ). t) (λ (t : List ℕ). FromSize)

-- what stands behind the opening
abbrev behind : HeadOf → List ℕ → List ℕ
behind h x = counted 32 (length h.text) ++ (counted 32 h.oct ++ (lined h.entry ++ (lined h.text ++ x)))

flat : (h : HeadOf) (x : List ℕ) → head_text h ++ x ≡ opening ++ behind h x
flat h x =
    ap (λ (r : List ℕ). opening ++ r)
    (append_assoc (decimal (length h.text)) (32 ∷ (decimal h.oct ++ 32 ∷ (h.entry ++ 10 ∷ (h.text ++ 10 ∷ [])))) x
    ∙ ap (λ (r : List ℕ). decimal (length h.text) ++ 32 ∷ r) (append_assoc (decimal h.oct) (32 ∷ (h.entry ++ 10 ∷ (h.text ++ 10 ∷ []))) x)
    ∙ ap (λ (r : List ℕ). decimal (length h.text) ++ 32 ∷ (decimal h.oct ++ 32 ∷ r)) (append_assoc h.entry (10 ∷ (h.text ++ 10 ∷ [])) x)
    ∙ ap (λ (r : List ℕ). decimal (length h.text) ++ 32 ∷ (decimal h.oct ++ 32 ∷ (h.entry ++ 10 ∷ r))) (append_assoc h.text (10 ∷ []) x ∙ sym (append_assoc h.text (10 ∷ []) x))
    ∙ ap (λ (r : List ℕ). decimal (length h.text) ++ 32 ∷ (decimal h.oct ++ 32 ∷ r)) (sym (append_assoc h.entry (10 ∷ []) (lined h.text ++ x)))
    ∙ ap (λ (r : List ℕ). decimal (length h.text) ++ 32 ∷ r) (sym (append_assoc (decimal h.oct) (32 ∷ []) (lined h.entry ++ (lined h.text ++ x))))
    ∙ sym (append_assoc (decimal (length h.text)) (32 ∷ []) (counted 32 h.oct ++ (lined h.entry ++ (lined h.text ++ x)))))

pub whole_of : (h : HeadOf) → head_text h ≡ opening ++ (counted 32 (length h.text) ++ (counted 32 h.oct ++ (lined h.entry ++ lined h.text)))
whole_of h =
    sym (append-nil (head_text h)) ∙ flat h []
    ∙ ap (λ (r : List ℕ). opening ++ (counted 32 (length h.text) ++ (counted 32 h.oct ++ (lined h.entry ++ r)))) (append-nil (lined h.text))

pub sizes_told : (most : ℕ) → most < 10 ^ 39 → AreTold (IsBetween 0 most) (counted 32)
sizes_told most small = counts_told 0 most 32 small (omega arith)

pub heads_told : HeadsAreTold
heads_told h k x y i j e =
    let all : opening ++ behind h x ≡ opening ++ behind k y = sym (flat h x) ∙ e ∙ flat k y in
    let rest : behind h x ≡ behind k y = append_cancel_left opening (behind h x) (behind k y) all in
    let size = sizes_told 4194304 (omega arith) (length h.text) (length k.text) (counted 32 h.oct ++ (lined h.entry ++ (lined h.text ++ x))) (counted 32 k.oct ++ (lined k.entry ++ (lined k.text ++ y)))
    record { low = omega arith; high = i.few } record { low = omega arith; high = j.few } rest in
    let oct = sizes_told 64 (omega arith) h.oct k.oct (lined h.entry ++ (lined h.text ++ x)) (lined k.entry ++ (lined k.text ++ y))
    record { low = omega arith; high = i.oct } record { low = omega arith; high = j.oct } size.1 in
    let entry = names_told h.entry k.entry (lined h.text ++ x) (lined k.text ++ y) i.entry j.entry oct.1 in
    let text = blocks_told (length k.text) h.text k.text x y size.0 refl entry.1 in
    let a : h.text ≡ k.text = text.0 in
    let b : h.oct ≡ k.oct = oct.0 in
    let c : h.entry ≡ k.entry = entry.0 in
    ((λ n. record { text = a n; oct = b n; entry = c n }), text.1)

pub head_of_whole : (x : List ℕ) → Whole x → TextsOf IsHead head_text x
head_of_whole x w =
    let size : ℕ = w.3.0 in
    let oct : ℕ = w.3.3.0 in
    let entry : List ℕ = w.3.3.3.0 in
    let text : List ℕ = w.3.3.3.3.0 in
    let h : HeadOf = record { text = text; oct = oct; entry = entry } in (
      h,
      record { few = omega (arith, w.3.3.3.3.1, w.3.2.high); oct = w.3.3.2.high; entry = w.3.3.3.2 },
      w.4
          ∙ (λ i. w.2 i ++ w.3.4 i)
          ∙ ap (λ (n : ℕ). opening ++ (counted 32 n ++ w.3.1)) (sym w.3.3.3.3.1)
          ∙ ap (λ (r : List ℕ). opening ++ (counted 32 (length text) ++ r)) w.3.3.4
          ∙ ap (λ (r : List ℕ). opening ++ (counted 32 (length text) ++ (counted 32 oct ++ r))) (w.3.3.3.4 ∙ ap (λ (r : List ℕ). lined entry ++ r) w.3.3.3.3.2)
          ∙ sym (whole_of h),
    )

begins_as_head : (x : List ℕ) → Whole x → Begins (TextsOf IsHead head_text) x
begins_as_head x w = let h = head_of_whole x w in ([], (h.0, h.1, append-nil x ∙ h.2))

whole_of_head : (x r : List ℕ) (h : HeadOf) → IsHead h → x ≡ head_text h ++ r → Leads Whole x
whole_of_head x r h is e =
    let last : List ℕ = lined h.text in
    let entry : List ℕ = lined h.entry ++ last in
    let oct : List ℕ = counted 32 h.oct ++ entry in
    let size : List ℕ = counted 32 (length h.text) ++ oct in (
      opening ++ size,
      r,
      (
        opening,
        size,
        refl,
        (
          length h.text,
          oct,
          record { low = omega arith; high = is.few },
          (h.oct, entry, record { low = omega arith; high = is.oct }, (h.entry, last, is.entry, (h.text, refl, refl), refl), refl),
          refl,
        ),
        refl,
      ),
      e ∙ ap (λ (t : List ℕ). t ++ r) (whole_of h),
    )

pub head_stops : (bytes : List ℕ) (n : ℕ) → IsStop Whole bytes n → IsFirstWrong HasHead bytes n
head_stops bytes n s = stop_leads (TextsOf IsHead head_text) bytes n
    (stop_part Whole (TextsOf IsHead head_text) bytes n begins_as_head (λ x b. whole_of_head x b.1 b.2.0 b.2.1 (b.3 ∙ ap (λ (t : List ℕ). t ++ b.1) b.2.2)) s)

-- ---- what stands behind each part can be

pub a_last : (size : ℕ) → (x : List ℕ) × TextsOf (IsBlock size) lined x
a_last size = (lined (replicate size 0), (replicate size 0, length-replicate size 0, refl))

pub an_entry : (size : ℕ) → (x : List ℕ) × FromEntry size x
an_entry size = let rest = a_last size in (lined (97 ∷ []) ++ rest.0, (97 ∷ [], rest.0, refl, rest.1, refl))

pub an_oct : (size : ℕ) → (x : List ℕ) × FromOct size x
an_oct size = let rest = an_entry size in (counted 32 0 ++ rest.0, (0, rest.0, record { low = omega arith; high = omega arith }, rest.1, refl))

pub a_size : (x : List ℕ) × FromSize x
a_size = let rest = an_oct 0 in (counted 32 0 ++ rest.0, (0, rest.0, record { low = omega arith; high = omega arith }, rest.1, refl))

-- ---- where a head stops

module _ (size : ℕ) (bytes : List ℕ) where
  pub entry_fails : (k : ℕ) → IsStop (TextsOf IsName lined) bytes k → IsStop (FromEntry size) bytes k
  entry_fails k s = two_fail IsName lined (λ (e : List ℕ). TextsOf (IsBlock size) lined) bytes (λ e h. a_last size) k s

  pub text_fails : (n k : ℕ) → IsLinedName bytes n → IsStop (TextsOf (IsBlock size) lined) (drop (n + 1) bytes) k → IsStop (FromEntry size) bytes (n + 1 + k)
  text_fails n k e s = two_later IsName lined (λ (t : List ℕ). TextsOf (IsBlock size) lined) bytes names_told (take n bytes) (n + 1) k e.is e.first s

  pub oct_fails : (k : ℕ) → IsStop (TextsOf (IsBetween 0 64) (counted 32)) bytes k → IsStop (FromOct size) bytes k
  oct_fails k s = two_fail (IsBetween 0 64) (counted 32) (λ (m : ℕ). FromEntry size) bytes (λ m h. an_entry size) k s

  pub behind_oct_fails : (oct n k : ℕ) → IsNumber 64 bytes oct n → IsStop (FromEntry size) (drop n bytes) k → IsStop (FromOct size) bytes (n + k)
  behind_oct_fails oct n k o s = two_later (IsBetween 0 64) (counted 32) (λ (m : ℕ). FromEntry size) bytes (sizes_told 64 (omega arith)) oct n k o.between o.first s

module _ (bytes : List ℕ) where
  pub size_fails : (k : ℕ) → IsStop (TextsOf (IsBetween 0 4194304) (counted 32)) bytes k → IsStop FromSize bytes k
  size_fails k s = two_fail (IsBetween 0 4194304) (counted 32) FromOct bytes (λ m h. an_oct m) k s

  pub behind_size_fails : (size n k : ℕ) → IsNumber 4194304 bytes size n → IsStop (FromOct size) (drop n bytes) k → IsStop FromSize bytes (n + k)
  behind_size_fails size n k o s = two_later (IsBetween 0 4194304) (counted 32) FromOct bytes (sizes_told 4194304 (omega arith)) size n k o.between o.first s

  -- a literal, as a text
  pub opening_stops : (k : ℕ) → IsStop (λ (t : List ℕ). t ≡ opening) bytes k → IsStop (TextsOf (λ (t : List ℕ). t ≡ opening) (λ (t : List ℕ). t)) bytes k
  opening_stops k s = stop_part (λ (t : List ℕ). t ≡ opening) (TextsOf (λ (t : List ℕ). t ≡ opening) (λ (t : List ℕ). t)) bytes k
      (λ x e. ([], (x, e, append-nil x))) (λ x b. (b.0, b.1, b.2.2 ∙ b.2.1, b.3)) s

  pub opening_fails : (k : ℕ) → IsStop (λ (t : List ℕ). t ≡ opening) bytes k → IsFirstWrong HasHead bytes k
  opening_fails k s = head_stops bytes k
      (two_fail (λ (t : List ℕ). t ≡ opening) (λ (t : List ℕ). t) (λ (t : List ℕ). FromSize) bytes (λ t h. a_size) k (opening_stops k s))

  pub behind_opening_fails : (k : ℕ) → AreFirst opening bytes 13 → IsStop FromSize (drop 13 bytes) k → IsFirstWrong HasHead bytes (13 + k)
  behind_opening_fails k first s = head_stops bytes (13 + k)
      (two_later (λ (t : List ℕ). t ≡ opening) (λ (t : List ℕ). t) (λ (t : List ℕ). FromSize) bytes (literals_told opening) opening 13 k refl first s)

-- ---- a head that is read

join : (a rest bytes : List ℕ) (m k : ℕ) → AreFirst a bytes m → AreFirst rest (drop m bytes) k → AreFirst (a ++ rest) bytes (m + k)
join a rest bytes m k p q = record {
  size = omega (arith, p.size, q.size, length-append a rest);
  told =
      p.told ∙ ap (λ (x : List ℕ). a ++ x) q.told ∙ sym (append_assoc a rest (drop k (drop m bytes)))
      ∙ ap (λ (x : List ℕ). (a ++ rest) ++ x) (drop-drop k m bytes);
}

pub head_read : (bytes : List ℕ) (size m : ℕ) (p : Places) (entry text : ℕ) (h : HeadOf) → 13 + m + p.oct_len ≡ entry → entry + p.entry_len + 1 ≡ text
    → h.text ≡ take size (drop text bytes) → h.oct ≡ p.oct → h.entry ≡ take p.entry_len (drop entry bytes)
    → AreFirst opening bytes 13 → IsSizeRead (drop 13 bytes) size m p → IsHead h × AreFirst (head_text h) bytes (text + size + 1)
head_read bytes size m p entry text h at_entry at_text is_text is_oct is_entry start r =
    let n : ℕ = p.oct_len in
    let k : ℕ = p.entry_len in
    let from : List ℕ = drop n (drop m (drop 13 bytes)) in
    let last : List ℕ = drop (k + 1) from in
    let e = r.rest.entry.entry in
    let t = r.rest.entry.text in
    let from_is : from ≡ drop entry bytes = ap (drop n) (drop-drop m 13 bytes) ∙ drop-drop n (13 + m) bytes ∙ ap (λ (j : ℕ). drop j bytes) at_entry in
    let behind_entry : entry + (k + 1) ≡ text = omega (arith, at_text) in
    let last_is : last ≡ drop text bytes = ap (drop (k + 1)) from_is ∙ drop-drop (k + 1) entry bytes ∙ ap (λ (j : ℕ). drop j bytes) behind_entry in
    let same_text : take size last ≡ h.text = ap (take size) last_is ∙ sym is_text in
    let same_entry : take k from ≡ h.entry = ap (take k) from_is ∙ sym is_entry in
    let many : size ≡ length h.text = sym t.is ∙ ap (length {A = ℕ}) same_text in
    let whole = join opening (counted 32 size ++ (counted 32 p.oct ++ (lined (take k from) ++ lined (take size last)))) bytes 13 (m + (n + (k + 1 + (size + 1)))) start
    (join (counted 32 size) (counted 32 p.oct ++ (lined (take k from) ++ lined (take size last))) (drop 13 bytes) m (n + (k + 1 + (size + 1))) r.first.first
    (join (counted 32 p.oct) (lined (take k from) ++ lined (take size last)) (drop m (drop 13 bytes)) n (k + 1 + (size + 1)) r.rest.oct.first
    (join (lined (take k from)) (lined (take size last)) from (k + 1) (size + 1) e.first t.first))) in
    let text_is : opening ++ (counted 32 size ++ (counted 32 p.oct ++ (lined (take k from) ++ lined (take size last)))) ≡ head_text h =
    (λ i. opening ++ (counted 32 (many i) ++ (counted 32 p.oct ++ (lined (same_entry i) ++ lined (same_text i)))))
    ∙ ap (λ (o : ℕ). opening ++ (counted 32 (length h.text) ++ (counted 32 o ++ (lined h.entry ++ lined h.text)))) (sym is_oct) ∙ sym (whole_of h) in
    let length_is : 13 + (m + (n + (k + 1 + (size + 1)))) ≡ text + size + 1 = omega (arith, at_entry, at_text) in (
      record { few = omega (arith, many, r.first.between.high); oct = omega (arith, is_oct, r.rest.oct.between.high); entry = subst IsName same_entry e.is },
      subst (λ (j : ℕ). AreFirst (head_text h) bytes j) length_is (subst (λ (x : List ℕ). AreFirst x bytes (13 + (m + (n + (k + 1 + (size + 1)))))) text_is whole),
    )

pub head_fits : (bytes : List ℕ) (size m : ℕ) (p : Places) → AreFirst opening bytes 13 → IsSizeRead (drop 13 bytes) size m p
    → 13 + m + p.oct_len + p.entry_len + 1 + size + 1 ≤ length bytes
head_fits bytes size m p start r =
    let entry : ℕ = 13 + m + p.oct_len in
    let text : ℕ = entry + p.entry_len + 1 in
    let h : HeadOf = record { text = take size (drop text bytes); oct = p.oct; entry = take p.entry_len (drop entry bytes) } in
    first_fits (head_text h) bytes (text + size + 1) (head_read bytes size m p entry text h refl refl refl refl refl start r).1
