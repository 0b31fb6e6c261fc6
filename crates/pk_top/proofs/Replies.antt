-- From what is told of a text to the answer, and to what a call of the command has done.
use Rattle.std.specs.Prelude.{◌≡◌, ◌≢◌, ◌⊎◌, ℕ, Bool, true, false, List, [], codes, Option, Some}
use Rattle.std.proofs.Common.{refl, sym, ap, subst, ◌∙◌, inl, inr, append-nil, IfErr, IsErrAnd, Ok, Err, None}
use Rattle.std.specs.declared.result.Result.{Result}
use Rattle.std.specs.Io.KnownBytes.{Appends, Keeps}
use Rattle.pk_command.specs.declared.asked.Command.{Command}
use Rattle.pk_command.specs.declared.asked.Command.TheVariants.{Run, Order, Gen, Cert, Check}
use Rattle.pk_command.specs.CommandLine.{is_taken}
use Rattle.pk_command.specs.Given.{AsksFor}
use Rattle.pk_command.proofs.Asking.{one_asked}
use Rattle.pk_status.specs.declared.status.Status.{Status}
use Rattle.pk_status.specs.declared.status.Status.TheVariants as status
use Rattle.pk_status.specs.Statuses.{status_of}
use Rattle.pk_front.specs.declared.failures.TextError.{TextError}
use Rattle.pk_front.specs.declared.failures.TextError.TheVariants as errors
use Rattle.pk_graph.specs.Graphs.{GraphOf}
use Rattle.pk_analysis.specs.declared.analysis.Options.{Options}
use Rattle.pk_cert.specs.Heads.{HeadOf}
use Rattle.pk_cert_cells.specs.declared.failures.Unfit.{Unfit}
use Rattle.pk_cert_cells.specs.declared.failures.Unfit.TheVariants as unfit
use Rattle.pk_cert_report.specs.Causes.{IsUngraphed, IsUnanalysed}
use Rattle.pk_cert_report.specs.Written.{IsUncertified}
use Rattle.pk_cert_report.specs.Checked.{IsInvalid, IsUnproved, status_of_unfit}
use Rattle.pk_text_report.specs.Answers.{IsAnswer, IsReply, IsTold, IsShort, IsLong, IsStopped, IsEnded, IsMaking, AskAbout, AskNoSource, limit_of, options_of, certified_options, default_options, default_runs, text_of}
use Rattle.pk_text_report.proofs.Answering.{not_taken}
use Rattle.pk_top.specs.Headline.{Answers, Gives, IsTextless, IsUntold}

-- what a command's text is, where the words ask about it
asked_text : (words : List (List ℕ)) (left : Option (List ℕ)) (c : Command) (P : List ℕ → Type 0) → AsksFor words c → (text : List ℕ) → AskAbout words left text → (text_of c left ≡ Some text → P text) → P text
asked_text words left c P asks text (inl x) f = absurd (not_taken words c asks x.0)
asked_text words left c P asks text (inr (d, other, is)) f =
    f (subst (λ (k : Command). text_of k left ≡ Some text) (one_asked words d c other asks) is)

pub told_so : (words : List (List ℕ)) (left : Option (List ℕ)) (c : Command) (made : List ℕ) (unknown : ℕ) (bytes : List ℕ) → AsksFor words c → ((t : List ℕ) → text_of c left ≡ Some t → made ≡ t)
    → IsShort made c → IsTold made c unknown bytes → (text : List ℕ) → AskAbout words left text → IsAnswer words text (status.Ok unknown) bytes
told_so words left c made unknown bytes asks is short told text about =
    asked_text words left c (λ t. IsAnswer words t (status.Ok unknown) bytes) asks text about
    (λ e. subst (λ (t : List ℕ). IsAnswer words t (status.Ok unknown) bytes) (is text e) (inr (record { command = c; asked = asks; reply = (short, told) })))

-- what is too long, and is told so
long_untold : (words : List (List ℕ)) (c : Command) → AsksFor words c → (text : List ℕ) → IsLong text c → IsUntold words text (limit_of c)
long_untold words (Run o) asks text long = inr (record { command = Run o; asked = asks; reply = (inl (long, refl), refl) })
long_untold words (Order o) asks text long = inr (record { command = Order o; asked = asks; reply = (inl (long, refl), refl) })
long_untold words (Gen o) asks text long = absurd long
long_untold words (Cert o) asks text long = inr (record { command = Cert o; asked = asks; reply = (inl (long, refl), refl) })
long_untold words Check asks text long = inr (record { command = Check; asked = asks; reply = (inl (long, refl), refl) })

-- without a text
textless : (words : List (List ℕ)) (c : Command) → AsksFor words c → (text : List ℕ) (s : Status) → IsTextless text c s → IsUntold words text s
textless words c asks text s (inl (long, is)) = subst (IsUntold words text) (sym is) (long_untold words c asks text long)
textless words c asks text s (inr (inl is)) = subst (IsUntold words text) (sym is) tt
textless words c asks text s (inr (inr is)) = subst (IsUntold words text) (sym is) tt

pub textless_so : (words : List (List ℕ)) (left : Option (List ℕ)) (c : Command) (s : Status) → AsksFor words c → ((t : List ℕ) → text_of c left ≡ Some t → IsTextless t c s)
    → (text : List ℕ) → AskAbout words left text → IsUntold words text s
textless_so words left c s asks none text about =
    asked_text words left c (λ t. IsUntold words t s) asks text about (λ e. textless words c asks text s (none text e))

-- ---- without anything told

-- a status with which a command about a text may end so
abbrev is_end : Status → Bool
is_end (status.Ok unknown) = false
is_end status.Usage = false
is_end (status.Refused refusal) = true
is_end (status.Limit what number) = true
is_end (status.RunLimit max_runs) = true
is_end status.CertLimit = true
is_end (status.CertByte offset) = true
is_end (status.CertState point) = true
is_end (status.CertFails point) = true
is_end status.ReadFault = false
is_end (status.WriteFault sent) = false
is_end status.Memory = true

cause_ends : (e : TextError) → is_end (status_of e) ≡ true
cause_ends (errors.Refused refusal) = refl
cause_ends (errors.Limit what number) = refl
cause_ends errors.Memory = refl

ungraphed_ends : (text entry : List ℕ) (s : Status) → IsUngraphed text entry s → is_end s ≡ true
ungraphed_ends text entry s (e, none, is) = ap is_end is ∙ cause_ends e

unanalysed_ends : (text entry : List ℕ) (o : Options) (most : ℕ) (s : Status) → IsUnanalysed text entry o most s → is_end s ≡ true
unanalysed_ends text entry o most s (inl x) = ungraphed_ends text entry s x
unanalysed_ends text entry o most s (inr (inl x)) = ap is_end x.1
unanalysed_ends text entry o most s (inr (inr x)) = ap is_end x.1

uncertified_ends : (text entry : List ℕ) (o : Options) (most : ℕ) (s : Status) → IsUncertified text entry o most s → is_end s ≡ true
uncertified_ends text entry o most s (inl x) = unanalysed_ends text entry o most s x
uncertified_ends text entry o most s (inr x) = ap is_end x.1

unfit_ends : (e : Unfit) → is_end (status_of_unfit e) ≡ true
unfit_ends (unfit.Byte n) = refl
unfit_ends (unfit.State v) = refl
unfit_ends unfit.Memory = refl

unproved_ends : (bytes : List ℕ) (h : HeadOf) (g : GraphOf) (s : Status) → IsUnproved bytes h g s → is_end s ≡ true
unproved_ends bytes h g s (inl (e, x, is)) = ap is_end is ∙ unfit_ends e
unproved_ends bytes h g s (inr (v, x, is)) = ap is_end is

invalid_ends : (bytes : List ℕ) (s : Status) → IsInvalid bytes s → is_end s ≡ true
invalid_ends bytes s (inl (n, x, is)) = ap is_end is
invalid_ends bytes s (inr (inl (h, x, none))) = ungraphed_ends h.text h.entry s none
invalid_ends bytes s (inr (inr (h, g, x, left))) = unproved_ends bytes h g s left

stopped_ends : (text : List ℕ) (c : Command) (s : Status) → IsStopped text c s → is_end s ≡ true
stopped_ends text (Run o) s h = unanalysed_ends text o.entry (options_of o) o.max_runs s h
stopped_ends text (Order o) s h = ungraphed_ends text o.entry s h
stopped_ends text (Gen o) s h = unanalysed_ends text (codes "main") default_options default_runs s h
stopped_ends text (Cert o) s h = uncertified_ends text o.entry (certified_options o) o.max_runs s h
stopped_ends text Check s h = invalid_ends text s h

ended_untold : (words : List (List ℕ)) (text : List ℕ) (s : Status) → is_end s ≡ true → (s ≢ status.Memory → IsAnswer words text s []) → IsUntold words text s
ended_untold words text (status.Ok unknown) is answer = absurd (cc)
ended_untold words text status.Usage is answer = absurd (cc)
ended_untold words text (status.Refused refusal) is answer = answer (λ e. absurd (cc))
ended_untold words text (status.Limit what number) is answer = answer (λ e. absurd (cc))
ended_untold words text (status.RunLimit max_runs) is answer = answer (λ e. absurd (cc))
ended_untold words text status.CertLimit is answer = answer (λ e. absurd (cc))
ended_untold words text (status.CertByte offset) is answer = answer (λ e. absurd (cc))
ended_untold words text (status.CertState point) is answer = answer (λ e. absurd (cc))
ended_untold words text (status.CertFails point) is answer = answer (λ e. absurd (cc))
ended_untold words text status.ReadFault is answer = tt
ended_untold words text (status.WriteFault sent) is answer = absurd (cc)
ended_untold words text status.Memory is answer = tt

-- a status with which a command ends so is a reply, if it isn't want of memory
ended_reply : (c : Command) (text : List ℕ) (s : Status) → is_end s ≡ true → s ≢ status.Memory → IsEnded c text s → IsReply c text s []
ended_reply c text (status.Ok unknown) is known x = absurd (cc)
ended_reply c text status.Usage is known x = absurd (cc)
ended_reply c text (status.Refused refusal) is known x = (x, refl)
ended_reply c text (status.Limit what number) is known x = (x, refl)
ended_reply c text (status.RunLimit max_runs) is known x = (x, refl)
ended_reply c text status.CertLimit is known x = (x, refl)
ended_reply c text (status.CertByte offset) is known x = (x, refl)
ended_reply c text (status.CertState point) is known x = (x, refl)
ended_reply c text (status.CertFails point) is known x = (x, refl)
ended_reply c text status.ReadFault is known x = absurd (cc)
ended_reply c text (status.WriteFault sent) is known x = absurd (cc)
ended_reply c text status.Memory is known x = absurd (known refl)

stopped : (words : List (List ℕ)) (c : Command) → AsksFor words c → (text : List ℕ) → IsShort text c → (s : Status) → IsStopped text c s → IsUntold words text s
stopped words c asks text short s h =
    let is = stopped_ends text c s h in
    ended_untold words text s is (λ known. inr (record { command = c; asked = asks; reply = ended_reply c text s is known (inr (short, h)) }))

pub stopped_so : (words : List (List ℕ)) (left : Option (List ℕ)) (c : Command) (made : List ℕ) (s : Status) → AsksFor words c → ((t : List ℕ) → text_of c left ≡ Some t → made ≡ t)
    → IsShort made c → IsStopped made c s → (text : List ℕ) → AskAbout words left text → IsUntold words text s
stopped_so words left c made s asks is short h text about =
    asked_text words left c (λ t. IsUntold words t s) asks text about
    (λ e. subst (λ (t : List ℕ). IsUntold words t s) (is text e) (stopped words c asks made short s h))

-- words that give no command
pub usage_so : (words : List (List ℕ)) (s : Status) → (s ≡ status.Usage) ⊎ (s ≡ status.Memory) → (s ≡ status.Usage → is_taken words ≡ false) → (text : List ℕ) → IsUntold words text s
usage_so words s (inl is) taken text =
    subst (IsUntold words text) (sym is) (inl (record { refused = taken is; status_is = refl; nothing = refl }))
usage_so words s (inr is) taken text = subst (IsUntold words text) (sym is) tt

-- no source is asked
pub no_source : (words : List (List ℕ)) (c : Command) → AsksFor words c → AskNoSource words → IsMaking c
no_source words c asks (inl refused) = absurd (not_taken words c asks refused)
no_source words c asks (inr (d, other, making)) = subst IsMaking (one_asked words d c other asks) making

pub making_asks : (words : List (List ℕ)) (c : Command) → AsksFor words c → IsMaking c → AskNoSource words
making_asks words c asks making = inr (c, asks, making)

-- an error that is handed on
pub handed_on : {X : Type 0} (F : Status → Type 0) (r : Result X Status) (s : Status) → IsErrAnd r (λ t. t ≡ s) → F s → IfErr r F
handed_on F (Ok x) s same holds = tt
handed_on F (Err t) s same holds = subst F (sym same) holds

pub if_err : {A E : Type 0} {P Q : E → Type 0} (r : Result A E) → ((e : E) → P e → Q e) → IfErr r P → IfErr r Q
if_err (Ok x) f h = tt
if_err (Err e) f h = f e h

-- ---- the call

keeps_itself : (o : Option (List ℕ)) → Keeps o o
keeps_itself None = tt
keeps_itself (Some bytes) = refl

appends_nothing : (o : Option (List ℕ)) → Appends o o []
appends_nothing None = tt
appends_nothing (Some bytes) = sym (append-nil bytes)

-- it ended before anything was written
pub ended_so : (words : List (List ℕ)) (text : List ℕ) (s : Status) (before : Option (List ℕ)) → IsUntold words text s → Answers words text s before before
ended_so words text (status.Ok unknown) before h = absurd h
ended_so words text status.Usage before h = record { bytes = []; answer = h; written = appends_nothing before }
ended_so words text (status.Refused refusal) before h = record { bytes = []; answer = h; written = appends_nothing before }
ended_so words text (status.Limit what number) before h = record { bytes = []; answer = h; written = appends_nothing before }
ended_so words text (status.RunLimit max_runs) before h = record { bytes = []; answer = h; written = appends_nothing before }
ended_so words text status.CertLimit before h = record { bytes = []; answer = h; written = appends_nothing before }
ended_so words text (status.CertByte offset) before h = record { bytes = []; answer = h; written = appends_nothing before }
ended_so words text (status.CertState point) before h = record { bytes = []; answer = h; written = appends_nothing before }
ended_so words text (status.CertFails point) before h = record { bytes = []; answer = h; written = appends_nothing before }
ended_so words text status.ReadFault before h = keeps_itself before
ended_so words text (status.WriteFault sent) before h = absurd h
ended_so words text status.Memory before h = keeps_itself before

-- the same without a fault and with enough memory
pub complete_so : (words : List (List ℕ)) (text : List ℕ) (s : Status) (before : Option (List ℕ)) → IsUntold words text s → (s ≡ status.ReadFault → ⊥) → (s ≡ status.Memory → ⊥) → Gives words text s before before
complete_so words text (status.Ok unknown) before h r m = absurd h
complete_so words text status.Usage before h r m = record { bytes = []; answer = h; written = appends_nothing before }
complete_so words text (status.Refused refusal) before h r m = record { bytes = []; answer = h; written = appends_nothing before }
complete_so words text (status.Limit what number) before h r m = record { bytes = []; answer = h; written = appends_nothing before }
complete_so words text (status.RunLimit max_runs) before h r m = record { bytes = []; answer = h; written = appends_nothing before }
complete_so words text status.CertLimit before h r m = record { bytes = []; answer = h; written = appends_nothing before }
complete_so words text (status.CertByte offset) before h r m = record { bytes = []; answer = h; written = appends_nothing before }
complete_so words text (status.CertState point) before h r m = record { bytes = []; answer = h; written = appends_nothing before }
complete_so words text (status.CertFails point) before h r m = record { bytes = []; answer = h; written = appends_nothing before }
complete_so words text status.ReadFault before h r m = absurd (r refl)
complete_so words text (status.WriteFault sent) before h r m = absurd h
complete_so words text status.Memory before h r m = absurd (m refl)
