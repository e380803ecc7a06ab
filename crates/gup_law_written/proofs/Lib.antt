mod NamedNotes
mod EachNote
mod PageNotes
mod ForkNotes
mod PinNotes
mod ShapeNotes
mod OwnNotes
mod TurnNotes
