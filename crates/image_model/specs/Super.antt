-- The super block of a store file.
use Rattle.std.specs.Prelude.{ℕ, ◌%◌, Bool, ◌&&◌, ◌==◌, nat_le, List, ◌++◌, take, length, replicate, codes, Option, Some, None, if◌then◌else◌, slice_index}
use Rattle.std.specs.List.{list_all}
use Rattle.std.specs.Int.{w32, w64, from_be_bytes, to_be_bytes}
use Rattle.disk_trait.specs.Disk.{piece}
use Rattle.object_graph.specs.declared.limits.TheConstants.{MOST_PAGES}
use Rattle.redo_journal.specs.declared.sizes.TheConstants.{HEAD_SIZE}

-- the pages of the store, and which journal area is the active one
pub record SuperParts : Type 0 where
  pub pages : ℕ
  pub area : ℕ

-- the length of the super block, and where the switch byte stands in it
abbrev pub super_size : ℕ
super_size = HEAD_SIZE

abbrev pub switch_place : ℕ
switch_place = 512

abbrev pub are_zeros : List ℕ → Bool
are_zeros bytes = list_all (λ b. b == 0) bytes

-- a store may have so many pages
abbrev pub is_page_count : ℕ → Bool
is_page_count pages = nat_le 1 pages && nat_le pages MOST_PAGES

-- ---- reading

-- 1,024 bytes: `CUTSTORE`, version 1, the pages, and zeros before and behind the switch byte
unfoldable pub is_super : List ℕ → Bool
is_super block =
    (length block == super_size)
    && ((from_be_bytes w64 (piece 0 8 block) == 4851876890435080773)
    && ((from_be_bytes w32 (piece 8 4 block) == 1)
    && (is_page_count (from_be_bytes w32 (piece 12 4 block))
    && (are_zeros (piece 16 496 block) && are_zeros (piece 513 511 block)))))

-- what these bytes say
abbrev pub super_said : List ℕ → SuperParts
super_said block = record { pages = from_be_bytes w32 (piece 12 4 block); area = slice_index block switch_place % 2 }

abbrev pub super_at : List ℕ → Option SuperParts
super_at block = if is_super block then Some (super_said block) else None

-- the super block of a file
abbrev pub super_of : List ℕ → Option SuperParts
super_of file = super_at (take super_size file)

-- ---- spelling

-- the super block of a store that is laid: area 0 is the active one
unfoldable pub super_bytes : ℕ → List ℕ
super_bytes pages = codes "CUTSTORE" ++ (to_be_bytes w32 1 ++ (to_be_bytes w32 pages ++ replicate 1008 0))
