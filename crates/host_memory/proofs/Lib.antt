mod StandLemmas
mod RehearsalLemmas
