-- Pages put together are one list of bytes: its length, a read and a write within one of them, and pages that are added behind. These
-- are the facts by which a memory in pages is the memory of WebAssembly Core Specification 2.0, section 4.2.8.
use Rattle.std.specs.Prelude.{ℕ, ◌+◌, ◌*◌, ◌<◌, ◌≤◌, ◌≡◌, List, [], ◌++◌, length, replicate, slice_index_or, slice_set}
use Rattle.wz_linear.specs.Bytes.{part, written}
use Rattle.wz_paged.specs.Pages.{bytes_of_page, bytes_of_pages}

-- there are as many bytes as the pages have places, made or not
abbrev pub PagesAreFull : Type 0
PagesAreFull = (size : ℕ) (pages : List (List ℕ)) → length (bytes_of_pages size pages) ≡ length pages * size

-- a range within a page is that range of the list
abbrev pub ReadsInPage : Type 0
ReadsInPage = (size : ℕ) (pages : List (List ℕ)) (number at count : ℕ) → number < length pages → at + count ≤ size
    → part (bytes_of_pages size pages) (number * size + at) count ≡ part (bytes_of_page size (slice_index_or pages number [])) at count

-- a page that is written at a range writes that range of the list
abbrev pub WritesInPage : Type 0
WritesInPage = (size : ℕ) (pages : List (List ℕ)) (number at : ℕ) (page bytes : List ℕ) → number < length pages → at + length bytes ≤ size
    → bytes_of_page size page ≡ written (bytes_of_page size (slice_index_or pages number [])) at bytes
    → bytes_of_pages size (slice_set pages number page) ≡ written (bytes_of_pages size pages) (number * size + at) bytes

-- pages that are added behind, and not made, are zeros behind the list
abbrev pub GrowsByPages : Type 0
GrowsByPages = (size : ℕ) (pages : List (List ℕ)) (count : ℕ)
    → bytes_of_pages size (pages ++ replicate count []) ≡ bytes_of_pages size pages ++ replicate (count * size) 0
