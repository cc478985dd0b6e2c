mod PatternLemmas
mod StuckLemmas
mod BoundLemmas
mod ServeLemmas
mod WordLemmas
