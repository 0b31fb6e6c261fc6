-- Tokens that were looked through.
use Rattle.std.proofs.Common.{◌≡◌, ℕ, ◌+◌, ◌-◌, ◌<◌, ◌≤◌, inl, inr, List, [], ◌∷◌, ◌++◌, Some, None, Bool, true, refl, sym, ap, subst, ◌∙◌, append_assoc, arith}
use Rattle.std.proofs.lemmas.List.{append-nil}
use Rattle.pk_ctypes.specs.declared.words.Construct.{Construct}
use Rattle.pk_lex.specs.declared.token.Token.{Token}
use Rattle.pk_lex.specs.declared.token.Kind.{Kind}
use Rattle.pk_lex.specs.declared.token.Kind.TheVariants as kind
use Rattle.pk_lex.specs.declared.token.Punctuator.TheVariants as mark
use Rattle.pk_constructs.specs.declared.constructs.Before.{Before}
use Rattle.pk_constructs.specs.Constructs.{BraceStep, BracesAfter, IsInBraces, last_kind, IsUnsupported, AreSupported, IsSupported, FirstUnsupported}
use Rattle.pk_constructs.specs.Tables.{before_next, kind_shows}
use Rattle.pk_constructs.proofs.TableLemmas.{found, finds}

one_step : (k : Kind) (n a b : ℕ) → BraceStep k n a → BraceStep k n b → a ≡ b
one_step k n a b (inl g) (inl h) = cc
one_step k n a b (inl g) (inr (inl h)) = absurd (cc)
one_step k n a b (inl g) (inr (inr h)) = absurd (h.0 g.0)
one_step k n a b (inr (inl g)) (inl h) = absurd (cc)
one_step k n a b (inr (inl g)) (inr (inl h)) = cc
one_step k n a b (inr (inl g)) (inr (inr h)) = absurd (h.1 g.0)
one_step k n a b (inr (inr g)) (inl h) = absurd (g.0 h.0)
one_step k n a b (inr (inr g)) (inr (inl h)) = absurd (g.1 h.0)
one_step k n a b (inr (inr g)) (inr (inr h)) = cc

pub one_depth : (ts : List Token) (n a b : ℕ) → BracesAfter ts n a → BracesAfter ts n b → a ≡ b
one_depth [] n a b g h = sym g ∙ h
one_depth (t ∷ ts) n a b g h =
    let same : g.0 ≡ h.0 = one_step t.kind n g.0 h.0 g.1 h.1 in
    one_depth ts g.0 a b g.2 (subst (λ m. BracesAfter ts m b) (sym same) h.2)

pub one_brace_more : (ts : List Token) (t : Token) (n m after : ℕ) → BracesAfter ts n m → BraceStep t.kind m after → BracesAfter (ts ++ t ∷ []) n after
one_brace_more [] t n m after g s = (after, subst (λ q. BraceStep t.kind q after) (sym g) s, refl)
one_brace_more (u ∷ ts) t n m after g s = (g.0, g.1, one_brace_more ts t g.0 m after g.2 s)

-- at most one brace more
pub at_most_one : (k : Kind) (n after : ℕ) → BraceStep k n after → after ≤ n + 1
at_most_one k n after (inl h) = omega (arith, h.1)
at_most_one k n after (inr (inl h)) = omega (arith, h.1)
at_most_one k n after (inr (inr h)) = omega (arith, h.2)

-- each token opens a brace, closes one or leaves them
pub brace_step : (k : Kind) (n : ℕ) → (m : ℕ) × BraceStep k n m
brace_step (kind.Punctuator mark.OpenBrace) n = (n + 1, inl (refl, refl))
brace_step (kind.Punctuator mark.CloseBrace) n = (n - 1, inr (inl (refl, refl)))
brace_step k n = (n, inr (inr (((λ e. cc), (λ e. cc), refl))))

last_of : (ts : List Token) (t : Token) → last_kind (ts ++ t ∷ []) ≡ Some t.kind
last_of [] t = refl
last_of (u ∷ []) t = refl
last_of (u ∷ v ∷ ts) t = last_of (v ∷ ts) t

one_supported_more : (front ts : List Token) (t : Token) → AreSupported front ts → ((c : Construct) → ¬ IsUnsupported (front ++ ts) t c) → AreSupported front (ts ++ t ∷ [])
one_supported_more front [] t g h = (subst (λ q. (c : Construct) → ¬ IsUnsupported q t c) (append-nil front) h, tt)
one_supported_more front (u ∷ ts) t g h =
    (g.0, one_supported_more (front ++ u ∷ []) ts t g.1 (subst (λ q. (c : Construct) → ¬ IsUnsupported q t c) (sym (append_assoc front (u ∷ []) ts)) h))

-- what was read of the tokens, and what was kept of it
pub record Scanned (tokens : List Token) (rest : List Token) (b : Before) (braces : ℕ) : Type 0 where
  pub front : List Token
  pub cut : tokens ≡ front ++ rest
  pub before : before_next (last_kind front) ≡ b
  pub depth : BracesAfter front 0 braces
  pub supported : IsSupported front

pub scanned_none : (tokens : List Token) (b : Before) → before_next None ≡ b → Scanned tokens tokens b 0
scanned_none tokens b e = record { front = []; cut = refl; before = e; depth = refl; supported = tt }

module _ (tokens rest : List Token) (b : Before) (braces : ℕ) (s : Scanned tokens rest b braces) (t : Token) (after : List Token) (next : rest ≡ t ∷ after) (in_braces : Bool) (is_in : in_braces ≡ true → 0 < braces) (is_out : 0 < braces → in_braces ≡ true) where
  inside : in_braces ≡ true → IsInBraces s.front
  inside e = (braces, s.depth, is_in e)

  inside_too : IsInBraces s.front → in_braces ≡ true
  inside_too g = is_out (subst (λ n. 0 < n) (one_depth s.front 0 g.0 braces g.1 s.depth) g.2)

  pub unsupported_here : (c : Construct) → kind_shows b in_braces t.kind ≡ Some c → FirstUnsupported tokens c t.at
  unsupported_here c e = record {
    front = s.front;
    found = t;
    rest = after;
    cut = s.cut ∙ ap (λ q. s.front ++ q) next;
    place = refl;
    before = s.supported;
    shows = found (last_kind s.front) (IsInBraces s.front) in_braces t.kind c inside (ap (λ q. kind_shows q in_braces t.kind) s.before ∙ e);
  }

  pub scanned_more : kind_shows b in_braces t.kind ≡ None → (d : Before) (depth : ℕ) → before_next (Some t.kind) ≡ d → BraceStep t.kind braces depth → Scanned tokens after d depth
  scanned_more e d depth f g = record {
    front = s.front ++ t ∷ [];
    cut = s.cut ∙ ap (λ q. s.front ++ q) next ∙ sym (append_assoc s.front (t ∷ []) after);
    before = ap before_next (last_of s.front t) ∙ f;
    depth = one_brace_more s.front t 0 braces depth s.depth g;
    supported = one_supported_more [] s.front t s.supported (λ c h.
        let k : kind_shows b in_braces t.kind ≡ Some c = ap (λ q. kind_shows q in_braces t.kind) (sym s.before) ∙ finds (last_kind s.front) (IsInBraces s.front) in_braces t.kind c inside_too h in
        absurd (cc));
  }

pub scanned_all : (tokens : List Token) (b : Before) (braces : ℕ) → Scanned tokens [] b braces → IsSupported tokens
scanned_all tokens b braces s = subst IsSupported (sym (append-nil s.front) ∙ sym s.cut) s.supported
