mod Tests
mod NumberLemmas
mod PageChanges
mod EventChanges
mod TimedNotes
