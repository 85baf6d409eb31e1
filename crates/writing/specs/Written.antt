-- What a writer does to a lent buffer: the text stands at its place, and before it and after it all is as it was.
-- Assumes nothing.
use Rattle.std.specs.Prelude.{◌≡◌, List, [], ◌∷◌, ◌++◌, ℕ, ◌+◌, length, take, drop}

pub record Wrote (before after : List ℕ) (at end : ℕ) (text : List ℕ) : Type 0 where
  pub long : length after ≡ length before
  pub next : end ≡ at + length text
  pub front : take end after ≡ take at before ++ text
  pub rest : drop end after ≡ drop end before

-- the buffer with a text at its front: the rest is as it was
abbrev pub after_text : List ℕ → List ℕ → List ℕ
after_text text before = text ++ drop (length text) before

-- the texts of the things in a list, one after the other
unfoldable pub texts : {A : Type 0} → (A → List ℕ) → List A → List ℕ
texts f [] = []
texts f (x ∷ xs) = f x ++ texts f xs
