-- What otreal's lines say.
mod Answers
