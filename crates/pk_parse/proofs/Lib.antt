mod RunEnumerations
mod EnumerationLemmas
mod RunInitializers
mod InitializerLemmas
mod RunDeclarations
mod DeclarationLemmas
mod RunParameters
mod ParameterLemmas
mod RunExternals
mod ExternalLemmas
mod RunTypeNames
mod TypeNameLemmas
mod RunStatements
mod StatementLemmas
mod ItemLemmas
mod TextLemmas
mod AnswerLemmas
pub mod LexedLemmas
