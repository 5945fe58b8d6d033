mod ShownLaws
mod ExplainedLaws
mod ReasonLaws
