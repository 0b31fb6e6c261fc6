-- The program that a text is.
use Rattle.std.proofs.Common.{◌≡◌, ◌∙◌, sym, ap, subst, ℕ, List, None}
use Rattle.pk_grammar.specs.Outcomes.{OneUnit}
use Rattle.pk_typed.specs.Trees.{UnitTree}
use Rattle.pk_type.specs.Rules.{noting}
use Rattle.pk_type.proofs.BareLemmas.{bare_unit}
use Rattle.pk_calls.specs.declared.listings.CallPath.{CallPath}
use Rattle.pk_calls.specs.Calls.{IsEntry}
use Rattle.pk_calls.specs.Paths.{IsListing}
use Rattle.pk_calls.proofs.Determined.{entry_determined}
use Rattle.pk_calls.proofs.ListingLemmas.{listing_determined}
use Rattle.pk_front.specs.Programs.{unit_in, IsProgram, AcceptedArePrograms}
use Rattle.pk_front.proofs.MarkLemmas.{one_tokens}

module _ (law : OneUnit) where
  trees_are : (text entry : List ℕ) (u v : UnitTree) (ps qs : List CallPath) (a : IsProgram text entry u ps) (b : IsProgram text entry v qs) → a.all ≡ b.all
  trees_are text entry u v ps qs a b =
      law a.all b.all a.marked b.marked a.derived b.derived (a.tokens_are ∙ one_tokens text a.tokens b.tokens a.read b.read ∙ sym b.tokens_are)

  pub program_unit : (text entry : List ℕ) (u v : UnitTree) (ps qs : List CallPath) → IsProgram text entry u ps → IsProgram text entry v qs → u ≡ v
  program_unit text entry u v ps qs a b = a.unit ∙ ap (unit_in text) (trees_are text entry u v ps qs a b) ∙ sym b.unit

  pub program_paths : (text entry : List ℕ) (u v : UnitTree) (ps qs : List CallPath) → IsProgram text entry u ps → IsProgram text entry v qs → ps ≡ qs
  program_paths text entry u v ps qs a b =
      let same : u ≡ v = program_unit text entry u v ps qs a b in
      let entries : a.first ≡ b.first = entry_determined v entry a.first b.first (subst (λ (x : UnitTree). IsEntry x entry a.first) same a.is_entry) b.is_entry in
      listing_determined v b.first ps qs (subst (λ (f : ℕ). IsListing v f ps) entries (subst (λ (x : UnitTree). IsListing x a.first ps) same a.listed)) b.listed

-- the typing that notes failures, and the one that checks nothing, make the same unit
pub accepted : AcceptedArePrograms
accepted text entry u ps has = record {
  tokens = has.typed.parsed.tokens;
  read = has.typed.parsed.read;
  all = has.typed.all;
  marked = has.typed.parsed.parsed.parsed.marked;
  tokens_are = has.typed.parsed.parsed.parsed.tokens_are;
  derived = has.typed.parsed.parsed.parsed.derived;
  unit = has.typed.unit ∙ bare_unit noting None text has.typed.all;
  first = has.called.0.entry;
  is_entry = has.called.0.is_entry;
  listed = has.called.0.is_listing;
}
