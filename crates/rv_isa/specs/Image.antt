use Rattle.std.specs.Prelude.{◌≡◌, ℕ, ◌+◌, ◌%◌, ◌^◌, ◌<◌, ◌≤◌, List, length, All}

-- what an image has: the code word at which the program starts, the code in words, the bytes that
-- the program only reads, and those that it may write
pub record Contents : Type 0 where
  pub entry : ℕ
  pub code : List ℕ
  pub fixed : List ℕ
  pub area : List ℕ

abbrev pub contents : ℕ → List ℕ → List ℕ → List ℕ → Contents
contents entry code fixed area = record { entry = entry; code = code; fixed = fixed; area = area }

abbrev pub AreWords : List ℕ → Type 0
AreWords ns = All (λ n. n < 2 ^ 32) ns

abbrev pub AreBytes : List ℕ → Type 0
AreBytes ns = All (λ n. n < 2 ^ 8) ns

-- the most code words of an image
abbrev pub max_words : ℕ
max_words = 16793600

-- the most bytes of the fixed part and the data together
abbrev pub max_bytes : ℕ
max_bytes = 67174400

-- the bounds of an image
pub record IsImage (i : Contents) : Type 0 where
  pub entry : i.entry < length i.code
  pub code : length i.code ≤ max_words
  pub fixed : length i.fixed % 8 ≡ 0
  pub area : length i.area % 8 ≡ 0
  pub room : length i.fixed + length i.area ≤ max_bytes
  pub code_words : AreWords i.code
  pub fixed_bytes : AreBytes i.fixed
  pub area_bytes : AreBytes i.area
