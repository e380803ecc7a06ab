pub mod BegunLemmas
pub mod DoerLemmas
pub mod PagesLemmas
