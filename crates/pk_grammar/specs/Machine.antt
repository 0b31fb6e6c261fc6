-- Reading token by token, by states and steps. No promise of parsing speaks of it: it joins the code to the grammar.
pub mod Signs
pub mod States
pub mod Steps
pub mod Running
