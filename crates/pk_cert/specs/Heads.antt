-- What stands before the cells: the line `pikos-cert 1 B N ENTRY`, and a text of B bytes on lines of its own.
use Rattle.std.specs.Prelude.{◌≡◌, ℕ, ◌≤◌, true, List, [], ◌∷◌, ◌++◌, length, codes}
use Rattle.std.specs.Fmt.{decimal}
use Rattle.pk_lex.specs.Words.{is_name}
use Rattle.pk_cert.specs.Beginnings.{TextsOf, Leads}
use Rattle.pk_cert.specs.declared.heads.Head.{Head}

pub record HeadOf : Type 0 where
  pub text : List ℕ
  pub oct : ℕ
  pub entry : List ℕ

pub record IsHead (h : HeadOf) : Type 0 where
  pub few : length h.text ≤ 4194304
  pub oct : h.oct ≤ 64
  pub entry : is_name h.entry ≡ true

abbrev pub head_text : HeadOf → List ℕ
head_text h =
    codes "pikos-cert 1 "
    ++ (decimal (length h.text) ++ 32 ∷ (decimal h.oct ++ 32 ∷ (h.entry ++ 10 ∷ (h.text ++ 10 ∷ []))))

-- bytes with a head, and anything behind it
abbrev pub HasHead : List ℕ → Type 0
HasHead = Leads (TextsOf IsHead head_text)

abbrev pub head_view : Head → HeadOf
head_view h = record { text = h.text.now; oct = h.oct; entry = h.entry.now }
