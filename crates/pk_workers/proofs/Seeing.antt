-- What a pass has seen of runs only grows.
use Rattle.std.proofs.Common.{◌≡◌, ℕ, ◌+◌, ◌*◌, ◌/◌, ◌<◌, ◌≤◌, ◌==◌, List, ◌∷◌, max, Bool, true, false, if◌then◌else◌, ap, arith}
use Rattle.pk_core.proofs.Basics.{itself}
use Rattle.pk_words.specs.declared.view.View.{View}
use Rattle.pk_words.specs.Tokens.{seen_run}
use Rattle.pk_workers.specs.Working.{HasSeen}

seen_more : (e : ℕ) (n : ℕ × ℕ) (ns : List (ℕ × ℕ)) → seen_run e ns ≤ seen_run e (n ∷ ns)
seen_more e n ns = by_test (n.0 == e)
  where
    by_test : (t : Bool) → seen_run e ns ≤ (if t then max (n.1 / 1048576) (seen_run e ns) else seen_run e ns)
    by_test true = omega arith
    by_test false = omega arith

seen_now : (e word : ℕ) (ns : List (ℕ × ℕ)) → word / 1048576 ≤ seen_run e ((e, word) ∷ ns)
seen_now e word ns = let q = itself e in rw q (omega arith)

pub sees_same : (old new : View) → new.notes ≡ old.notes → HasSeen old new
sees_same old new is e = omega (arith, ap (seen_run e) is)

pub sees_more : (u word : ℕ) (old new : View) → new.notes ≡ (u, word) ∷ old.notes → HasSeen old new
sees_more u word old new is e = omega (arith, seen_more e (u, word) old.notes, ap (seen_run e) is)

pub sees_on : (old mid new : View) → HasSeen old mid → HasSeen mid new → HasSeen old new
sees_on old mid new first second e = omega (arith, first e, second e)

-- a run that is noted is seen, and stays so
pub sees_run : (e run rest : ℕ) (old mid new : View) → mid.notes ≡ (e, (run + 1) * 1048576 + rest) ∷ old.notes → HasSeen mid new → run < seen_run e new.notes
sees_run e run rest old mid new is more =
    let high : run + 1 ≤ ((run + 1) * 1048576 + rest) / 1048576 = omega arith in
    omega (arith, high, seen_now e ((run + 1) * 1048576 + rest) old.notes, ap (seen_run e) is, more e)
