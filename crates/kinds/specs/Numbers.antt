-- The numbers of a kind, written out.
use Rattle.std.specs.Prelude.{◌≡◌, ℕ}
use Rattle.kinds.specs.Kind.{Kind, wide, size_of, data_body, directory_body, head_body}

-- A kind's W, capacity, bytes of a point, page kinds and lengths of page bodies are these.
pub record Numbers {P : Type 0} (k : Kind P) (w b size data_page directory_page head_page data_length directory_length head_length : ℕ) : Type 0 where
  pub width_is : wide k ≡ w
  pub capacity_is : k.capacity ≡ b
  pub size_is : size_of k ≡ size
  pub data_kind_is : k.data_kind ≡ data_page
  pub directory_kind_is : k.directory_kind ≡ directory_page
  pub head_kind_is : k.head_kind ≡ head_page
  pub data_body_is : data_body k ≡ data_length
  pub directory_body_is : directory_body k ≡ directory_length
  pub head_body_is : head_body k ≡ head_length
