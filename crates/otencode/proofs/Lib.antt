-- One more word's samples in a room.
mod Behind
