mod AnswerLemmas
mod SyntaxLemmas
mod SourceLemmas
mod RuledLemmas
mod FittedLemmas
mod LoadLemmas
