-- The cases that 01 marks P, as one statement; and the caretaker's poll in numbers (02, Ask 2).
pub mod Tried
pub mod Caretaker
