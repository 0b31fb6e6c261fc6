-- What a step shows of the run that is kept.
pub use Rattle.pk_runner_frame.specs.Frames.{work_in, expression_in, task_in}
pub use Rattle.pk_typed.specs.Views.{value_tree}
pub use Rattle.pk_runner_state.specs.Shown.{shown}
