mod DrawLemmas
mod FileLemmas
