-- Words and a text have an answer.
use Rattle.std.specs.Prelude.{ℕ, List}
use Rattle.pk_command.specs.declared.asked.Command.{Command}
use Rattle.pk_command.specs.declared.asked.Command.TheVariants.{Order, Check}
use Rattle.pk_command.specs.declared.asked.OrderOptions.{OrderOptions}
use Rattle.pk_command.specs.Given.{AsksFor}
use Rattle.pk_graph.specs.Graphs.{GraphOf}
use Rattle.pk_text_graph.specs.Graphs.{HasGraph}
use Rattle.pk_status.specs.declared.status.Status.{Status}
use Rattle.pk_text_report.specs.Answers.{IsReply, IsAnswer}
use Rattle.pk_answer_laws.specs.Analyses.{HasRoom}
use Rattle.pk_answer_laws.specs.Rooms.{IsShortGraph}

-- memory has room for the text's graph, whatever its runs begin with
abbrev pub GraphsHaveRoom : List ℕ → Type 0
GraphsHaveRoom text = (entry : List ℕ) (g : GraphOf) → HasGraph text entry g → HasRoom g

-- some status and bytes are the reply to the command, and none of them tells of want of memory
pub record HasReply (command : Command) (text : List ℕ) : Type 0 where
  pub status : Status
  pub bytes : List ℕ
  pub reply : IsReply command text status bytes

-- an order of whatever text
abbrev pub OrdersAreAnswered : Type 0
OrdersAreAnswered = (text : List ℕ) (o : OrderOptions) → HasReply (Order o) text

-- a check of whatever bytes
abbrev pub ChecksAreAnswered : Type 0
ChecksAreAnswered = (bytes : List ℕ) → HasReply Check bytes

-- each command about a text whose graphs have room
abbrev pub CommandsAreAnswered : Type 0
CommandsAreAnswered = (command : Command) (text : List ℕ) → GraphsHaveRoom text → HasReply command text

-- some status and bytes are the answer to the words and the text
pub record HasAnswer (words : List (List ℕ)) (text : List ℕ) : Type 0 where
  pub status : Status
  pub bytes : List ℕ
  pub answer : IsAnswer words text status bytes

abbrev pub WordsAreAnswered : Type 0
WordsAreAnswered = (words : List (List ℕ)) (text : List ℕ) → GraphsHaveRoom text → HasAnswer words text

-- words that ask for an order, whatever the text
abbrev pub WordsForOrdersAreAnswered : Type 0
WordsForOrdersAreAnswered =
    (words : List (List ℕ)) (text : List ℕ) (o : OrderOptions) → AsksFor words (Order o) → HasAnswer words text

-- no graph of the text has a list as long as 2^63
abbrev pub GraphsAreShort : List ℕ → Type 0
GraphsAreShort text = (entry : List ℕ) (g : GraphOf) → HasGraph text entry g → IsShortGraph g

abbrev pub ShortGraphsAreAnswered : Type 0
ShortGraphsAreAnswered = (words : List (List ℕ)) (text : List ℕ) → GraphsAreShort text → HasAnswer words text
