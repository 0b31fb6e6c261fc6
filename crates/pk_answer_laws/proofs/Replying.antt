-- From the end of a text to the reply, and from the words to the answer.
use Rattle.std.proofs.Common.{◌≢◌, ◌⊎◌, inl, inr, ℕ, ◌++◌, List, [], length, codes, refl, false}
use Rattle.std.proofs.lemmas.Bool.{cases_Bool, cases_lt}
use Rattle.pk_ctypes.specs.declared.words.Quantity.TheVariants.{Points, Packs}
use Rattle.pk_command.specs.declared.asked.Command.{Command}
use Rattle.pk_command.specs.declared.asked.Command.TheVariants.{Run, Order, Gen, Cert, Check}
use Rattle.pk_command.specs.declared.asked.RunOptions.{RunOptions}
use Rattle.pk_command.specs.declared.asked.GenOptions.{GenOptions}
use Rattle.pk_command.specs.declared.asked.CertOptions.{CertOptions}
use Rattle.pk_command.specs.CommandLine.{is_taken}
use Rattle.pk_command.specs.Laws.{TakenAsks}
use Rattle.pk_front.specs.declared.failures.TextError.{TextError}
use Rattle.pk_front.specs.declared.failures.TextError.TheVariants as errors
use Rattle.pk_front.specs.Laws.{HasEnd, analysed, is_left}
use Rattle.pk_text_laws.specs.Total.Ends.{EveryTextEnds}
use Rattle.pk_lower.specs.Parts.{point_count}
use Rattle.pk_graph.specs.Graphs.{GraphOf}
use Rattle.pk_lower.specs.Answers.{point_limit}
use Rattle.pk_lower.specs.Graphs.{graph_of}
use Rattle.pk_text_graph.specs.Graphs.{GraphsAreWellMade, HasGraph, HasNoGraph}
use Rattle.pk_status.specs.declared.status.Status.TheVariants as status
use Rattle.pk_status.specs.declared.status.Status.{Status}
use Rattle.pk_cert_cells.specs.Cells.{head_of, cells_text, most_bytes}
use Rattle.pk_cert_report.specs.Causes.{IsUngraphed}
use Rattle.pk_cert_report.specs.Written.{IsCertificateOf}
use Rattle.pk_state.specs.Facts.{Stated}
use Rattle.pk_packs.specs.Packs.{pack_limit}
use Rattle.pk_phases.specs.declared.equations.Cell.{Cell}
use Rattle.pk_solver.specs.Solved.{AreRawCells}
use Rattle.pk_text_report.specs.Answers.{IsShort, IsLong, IsStopped, certified_options, default_options, default_runs, limit_of, options_of, text_limit}
use Rattle.pk_answer_laws.specs.Analyses.{EveryGraphIsReported, EveryGraphIsSummed, EveryGraphIsOrdered}
use Rattle.pk_answer_laws.specs.Answers.{ChecksAreAnswered, GraphsHaveRoom, HasReply, OrdersAreAnswered, CommandsAreAnswered, WordsAreAnswered, WordsForOrdersAreAnswered}

short_or_long : (command : Command) (text : List ℕ) → IsShort text command ⊎ IsLong text command
short_or_long (Run o) text = elim (cases_lt text_limit (length text)) [ inl long ↦ inr long | inr short ↦ inl short ]
short_or_long (Order o) text = elim (cases_lt text_limit (length text)) [ inl long ↦ inr long | inr short ↦ inl short ]
short_or_long (Gen o) text = inl tt
short_or_long (Cert o) text = elim (cases_lt text_limit (length text)) [ inl long ↦ inr long | inr short ↦ inl short ]
short_or_long Check text = elim (cases_lt most_bytes (length text)) [ inl long ↦ inr long | inr short ↦ inl short ]

too_long : (command : Command) (text : List ℕ) → IsLong text command → HasReply command text
too_long (Run o) text long = record { status = limit_of (Run o); bytes = []; reply = (inl (long, refl), refl) }
too_long (Order o) text long = record { status = limit_of (Order o); bytes = []; reply = (inl (long, refl), refl) }
too_long (Gen o) text long = absurd long
too_long (Cert o) text long = record { status = limit_of (Cert o); bytes = []; reply = (inl (long, refl), refl) }
too_long Check text long = record { status = limit_of Check; bytes = []; reply = (inl (long, refl), refl) }

pub unless_long : (command : Command) (text : List ℕ) → (IsShort text command → HasReply command text) → HasReply command text
unless_long command text f = elim (short_or_long command text) [ inl short ↦ f short | inr long ↦ too_long command text long ]

-- a command about this text, whose runs begin with this function
module _ (command : Command) (given text entry : List ℕ) (short : IsShort given command) (stops : (s : Status) → IsUngraphed text entry s → IsStopped given command s) where
  left : (e : TextError) → e ≢ errors.Memory → HasNoGraph text entry e → HasReply command given
  left (errors.Refused refusal) other h = record { status = status.Refused refusal; bytes = []; reply = (inr (short, stops (status.Refused refusal) (errors.Refused refusal, h, refl)), refl) }
  left (errors.Limit what number) other h = record { status = status.Limit what number; bytes = []; reply = (inr (short, stops (status.Limit what number) (errors.Limit what number, h, refl)), refl) }
  left errors.Memory other h = absurd (other refl)

  pub ended : ((g : GraphOf) → HasGraph text entry g → HasReply command given) → HasEnd text entry → HasReply command given
  ended told (analysed {u = u} {paths = paths} called) = elim (cases_lt point_limit (point_count u paths)) [
    | inl many ↦ left (errors.Limit Points point_limit) (λ e. absurd (cc)) (inr (record { unit = u; paths = paths; called = called; many = many }, refl))
    | inr few ↦ told (graph_of u paths) (record { unit = u; paths = paths; called = called; few = few; graph = refl })
  ]
  ended told (is_left {s = e} other h) = left e other (inl h)

pub orders : EveryGraphIsOrdered → EveryTextEnds → GraphsAreWellMade → OrdersAreAnswered
orders law ends made text o = unless_long (Order o) text (λ short. ended (Order o) text text o.entry short (λ s x. x) (λ g h.
    let x = law g o.peak (made text o.entry g h) in
    record { status = status.Ok 0; bytes = x.0 ++ codes "\n"; reply = (short, record { graph = g; has_graph = h; lines = x.0; order = x.1; told = refl; none_unknown = refl }) }) (ends text o.entry))

runs : EveryGraphIsReported → GraphsAreWellMade → (text : List ℕ) (o : RunOptions) → GraphsHaveRoom text → IsShort text (Run o) → (g : GraphOf) → HasGraph text o.entry g → HasReply (Run o) text
runs law made text o room short g h = elim (law g (options_of o) o.max_runs o.points (made text o.entry g h) (room o.entry g h)) [
  | inl x ↦ record { status = status.Ok x.0; bytes = x.1; reply = (short, record { graph = g; has_graph = h; report = x.2 }) }
  | inr (inl many) ↦ record { status = status.Limit Packs pack_limit; bytes = []; reply = (inr (short, inr (inl (record { graph = g; has_graph = h; many = many }, refl))), refl) }
  | inr (inr over) ↦ record { status = status.RunLimit o.max_runs; bytes = []; reply = (inr (short, inr (inr (record { graph = g; has_graph = h; over = over }, refl))), refl) }
]

made_texts : EveryGraphIsSummed → GraphsAreWellMade → (text : List ℕ) (o : GenOptions) → GraphsHaveRoom text → IsShort text (Gen o) → (g : GraphOf) → HasGraph text (codes "main") g → HasReply (Gen o) text
made_texts law made text o room short g h = elim (law g default_options default_runs o.seed o.size (length text) (made text (codes "main") g h) (room (codes "main") g h)) [
  | inl x ↦ record { status = status.Ok x.0; bytes = x.1; reply = (short, record { graph = g; has_graph = h; summary = x.2 }) }
  | inr (inl many) ↦ record { status = status.Limit Packs pack_limit; bytes = []; reply = (inr (short, inr (inl (record { graph = g; has_graph = h; many = many }, refl))), refl) }
  | inr (inr over) ↦ record { status = status.RunLimit default_runs; bytes = []; reply = (inr (short, inr (inr (record { graph = g; has_graph = h; over = over }, refl))), refl) }
]

-- a certificate, if it isn't too long
certified : (text : List ℕ) (o : CertOptions) (g : GraphOf) (cells : List (Cell Stated)) → IsShort text (Cert o) → HasGraph text o.entry g → AreRawCells g (certified_options o) o.max_runs cells → HasReply (Cert o) text
certified text o g cells short h are =
    let bytes = cells_text g (head_of text o.oct o.entry) cells in
    let certificate : IsCertificateOf text o.entry (certified_options o) o.max_runs bytes = record { one_octagon = refl; graph = g; has_graph = h; cells = cells; are = are; told = refl } in
    elim (cases_lt most_bytes (length bytes)) [
      | inl many ↦ record { status = status.CertLimit; bytes = []; reply = (inr (short, inr (record { bytes = bytes; certificate = certificate; many = many }, refl)), refl) }
      | inr few ↦ record { status = status.Ok 0; bytes = bytes; reply = (short, (record { certificate = certificate; few = few }, refl)) }
    ]

certificates : EveryGraphIsReported → GraphsAreWellMade → (text : List ℕ) (o : CertOptions) → GraphsHaveRoom text → IsShort text (Cert o) → (g : GraphOf) → HasGraph text o.entry g → HasReply (Cert o) text
certificates law made text o room short g h = elim (law g (certified_options o) o.max_runs false (made text o.entry g h) (room o.entry g h)) [
  | inl x ↦
      let are = x.2.are_states in
      certified text o g are.outcome.cells short h (record { plan = x.2.plan; order = are.order; flow = are.flow; system = are.system; outcome = are.outcome; result = are.result; cells_are = refl })
  | inr (inl many) ↦ record { status = status.Limit Packs pack_limit; bytes = []; reply = (inr (short, inl (inr (inl (record { graph = g; has_graph = h; many = many }, refl)))), refl) }
  | inr (inr over) ↦ record { status = status.RunLimit o.max_runs; bytes = []; reply = (inr (short, inl (inr (inr (record { graph = g; has_graph = h; over = over }, refl)))), refl) }
]

pub commands : OrdersAreAnswered → EveryGraphIsReported → EveryGraphIsSummed → EveryTextEnds → GraphsAreWellMade → ChecksAreAnswered → CommandsAreAnswered
commands order report sum ends made checks (Run o) text room =
    unless_long (Run o) text (λ short. ended (Run o) text text o.entry short (λ s. inl) (runs report made text o room short) (ends text o.entry))
commands order report sum ends made checks (Order o) text room = order text o
commands order report sum ends made checks (Gen o) text room =
    unless_long (Gen o) text (λ short. ended (Gen o) text text (codes "main") short (λ s. inl) (made_texts sum made text o room short) (ends text (codes "main")))
commands order report sum ends made checks (Cert o) text room =
    unless_long (Cert o) text (λ short. ended (Cert o) text text o.entry short (λ s x. inl (inl x)) (certificates report made text o room short) (ends text o.entry))
commands order report sum ends made checks Check text room = checks text

pub words_answered : CommandsAreAnswered → TakenAsks → WordsAreAnswered
words_answered law asks words text room = elim (cases_Bool (is_taken words)) [
  | inl taken ↦
      let x = asks words taken in
      let y = law x.0 text room in
      record { status = y.status; bytes = y.bytes; answer = inr (record { command = x.0; asked = x.1; reply = y.reply }) }
  | inr refused ↦ record { status = status.Usage; bytes = []; answer = inl (record { refused = refused; status_is = refl; nothing = refl }) }
]

pub order_words_answered : OrdersAreAnswered → WordsForOrdersAreAnswered
order_words_answered law words text o asks =
    let y = law text o in
    record { status = y.status; bytes = y.bytes; answer = inr (record { command = Order o; asked = asks; reply = y.reply }) }
