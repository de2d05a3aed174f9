-- The cases that 01 marks P, proved together; and those of the caretaker's poll.
mod Table
mod Caretaker
