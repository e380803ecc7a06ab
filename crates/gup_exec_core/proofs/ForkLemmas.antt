-- What a fork copies, where the objects are known by their pages.
use Rattle.std.proofs.Common.{◌≡◌, ℕ, Bool, true, ◌∙◌, ap}
use Rattle.gup_plain.specs.Put.{put, put2, spread}

-- the contents of a page that is copied as a whole
pub content_copied : (K : ℕ → ℕ → ℕ) (f f' t t' : ℕ) → f ≡ f' → t ≡ t' → put t (spread 0 512 (K f) (K t)) K ≡ put t' (spread 0 512 (K f') (K t')) K
content_copied K f f' t t' from to =
    ap (λ (x : ℕ). put t (spread 0 512 (K x) (K t)) K) from ∙ ap (λ (x : ℕ). put x (spread 0 512 (K f') (K x)) K) to

-- the flags of a page that is copied as a whole
pub page_copied : (c page : ℕ) (Q Q' : ℕ → ℕ → ℕ → Bool) → Q ≡ Q' → put2 c page (spread 0 512 (λ _. true) (Q c page)) Q ≡ put2 c page (spread 0 512 (λ _. true) (Q' c page)) Q'
page_copied c page Q Q' same = ap (λ (X : ℕ → ℕ → ℕ → Bool). put2 c page (spread 0 512 (λ _. true) (X c page)) X) same

-- the contents where one word is copied
pub word_content : (K : ℕ → ℕ → ℕ) (w f f' t t' v : ℕ) → v ≡ K f w → f ≡ f' → t ≡ t' → put2 t w v K ≡ put2 t' w (K f' w) K
word_content K w f f' t t' v is from to =
    ap (λ (x : ℕ). put2 t w x K) is ∙ ap (λ (x : ℕ). put2 t w (K x w) K) from ∙ ap (λ (x : ℕ). put2 x w (K f' w) K) to

-- the flags where one word is copied
pub word_copied : (c page w : ℕ) (Q Q' : ℕ → ℕ → ℕ → Bool) → Q ≡ Q' → put2 c page (put w true (Q c page)) Q ≡ put2 c page (put w true (Q' c page)) Q'
word_copied c page w Q Q' same = ap (λ (X : ℕ → ℕ → ℕ → Bool). put2 c page (put w true (X c page)) X) same
