-- Reading one member of an object: its value, or what is wrong with it.
use Rattle.std.specs.Prelude.{◌≡◌, ℕ, ◌+◌, ◌-◌, ◌^◌, ◌&&◌, Bool, List, [], ◌∷◌, length, codes, nat_le, nat_eq, is_some, if◌then◌else◌, Option, Some, None, Result, Ok, Err}
use Rattle.std.specs.List.{list_all}
use Rattle.std.specs.Option.{ok_or}
use Rattle.std.specs.Result.{result_ok}
use Rattle.std.specs.Cmp.Lexicographic.{pointwise}
use Rattle.hex.specs.Hex.{decode_of}
use Rattle.serde_json.specs.Data.{Data, Items, no_items, item}
use Rattle.serde_json.specs.Find.{get, as_array, as_bool, as_number, as_object, as_str, as_u64}
use Rattle.vfm_types.specs.declared.fault.DescFault.{DescFault}
use Rattle.vfm_types.specs.declared.fault.DescFault.TheVariants as fault
use Rattle.vfm_types.specs.declared.fault.Field.{Field}
use Rattle.vfm_types.specs.declared.fault.FieldName.{FieldName}
use Rattle.vfm_types.specs.declared.fault.FieldName.TheVariants.{Name, Bar, Tells, Queue, Kind, Hex}
use Rattle.vfm_types.specs.Bytes.{is_name}
use Rattle.vfm_desc.specs.declared.reading.JobKind.{JobKind}
use Rattle.vfm_desc.specs.declared.reading.JobKind.TheVariants.{Write, Read, Store, Add}
use Rattle.vfm_desc.specs.declared.reading.Level.{Level}
use Rattle.vfm_desc.specs.declared.reading.Level.TheVariants.{Top, OfDevice, OfJob}
use Rattle.vfm_types.specs.Ranges.{takes, most_bars, are_bar_sizes}
use Rattle.vfm_desc.specs.Members.{member_name}

-- the next step, where the one before found no fault
infixl 10 ◌>>=◌
abbrev pub ◌>>=◌ : {A B : Type 0} → Result A DescFault → (A → Result B DescFault) → Result B DescFault
(Ok x) >>= f = f x
(Err e) >>= f = Err e

-- a call that answers this fault was to answer so, unless memory ran out
abbrev pub Fails : {Y : Type 0} → DescFault → Result Y DescFault → Type 0
Fails fault.NoMemory read = Unit {0}
Fails e read = read ≡ Err e

-- what a call answered, seen by view, is what it was to answer, unless memory ran out
abbrev pub Gives : {X Y : Type 0} → (X → Y) → Result X DescFault → Result Y DescFault → Type 0
Gives view (Ok x) read = read ≡ Ok (view x)
Gives view (Err e) read = Fails e read

-- a member at this level, as a fault names it
abbrev pub field_at : Level → FieldName → Field
field_at Top name = record { device = 2 ^ 32 - 1; job = 2 ^ 32 - 1; name = name }
field_at (OfDevice d) name = record { device = d; job = 2 ^ 32 - 1; name = name }
field_at (OfJob d j) name = record { device = d; job = j; name = name }

-- goes on where the test holds
abbrev pub check : Bool → DescFault → Result (Unit {0}) DescFault
check test e = if test then Ok tt else Err e

-- the member's value; what is no object has no members
unfoldable pub member_of : Data → Level → FieldName → Result Data DescFault
member_of holder level name = ok_or (get (member_name name) holder) (fault.Missing (field_at level name))

-- a number from 0 to 2^64-1, written without sign, fraction and exponent
unfoldable pub whole_number : Field → Data → Result ℕ DescFault
whole_number field value = do
  number ← ok_or (as_number value) (fault.Kind field)
  ok_or (as_u64 number) (fault.Range field)

-- the number is one that the member takes
unfoldable pub ranged : Level → FieldName → ℕ → Result ℕ DescFault
ranged level name n = do
  taken ← check (takes name n) (fault.Range (field_at level name))
  Ok n

-- a member that is a number
unfoldable pub number_in : Data → Level → FieldName → Result ℕ DescFault
number_in holder level name = do
  value ← member_of holder level name
  n ← whole_number (field_at level name) value
  ranged level name n

-- a member that is a text
unfoldable pub text_in : Data → Level → FieldName → Result (List ℕ) DescFault
text_in holder level name = do
  value ← member_of holder level name
  ok_or (as_str value) (fault.Kind (field_at level name))

-- whether a device can tell peer-to-peer DMA
unfoldable pub tells_in : Data → Level → Result Bool DescFault
tells_in holder level = do
  value ← member_of holder level Tells
  ok_or (as_bool value) (fault.Kind (field_at level Tells))

-- a device's name
unfoldable pub name_in : Data → Level → Result (List ℕ) DescFault
name_in holder level = do
  text ← text_in holder level Name
  sound ← check (is_name text) (fault.Range (field_at level Name))
  Ok text

-- the 1 to 64 bytes that 2 to 128 hex digits of either case encode
abbrev pub bytes_of_hex : List ℕ → Option (List ℕ)
bytes_of_hex text = if nat_le 2 (length text) && nat_le (length text) 128 then result_ok (decode_of text) else None

-- the bytes of a write
unfoldable pub bytes_in : Data → Level → Result (List ℕ) DescFault
bytes_in holder level = do
  text ← text_in holder level Hex
  ok_or (bytes_of_hex text) (fault.Range (field_at level Hex))

-- the kind of job that a text names
abbrev pub kind_of : List ℕ → Option JobKind
kind_of text =
    if pointwise nat_eq text (codes "write") then Some Write
    else (if pointwise nat_eq text (codes "read") then Some Read
    else (if pointwise nat_eq text (codes "store") then Some Store
    else (if pointwise nat_eq text (codes "add") then Some Add else None)))

-- a job's kind
unfoldable pub kind_in : Data → Level → Result JobKind DescFault
kind_in holder level = do
  text ← text_in holder level Kind
  ok_or (kind_of text) (fault.Range (field_at level Kind))

-- the elements of a JSON list
abbrev pub elements : Items → List Data
elements no_items = []
elements (item value values) = value ∷ elements values

-- an element of a list is of the JSON kind that the list takes: BARs and a queue numbers, the other lists objects
abbrev pub is_element : FieldName → Data → Bool
is_element Bar value = is_some (as_number value)
is_element Queue value = is_some (as_number value)
is_element _ value = is_some (as_object value)

-- the elements of a value that is a list, all of their kind
unfoldable pub elements_of : Data → Level → FieldName → Result (List Data) DescFault
elements_of value level name = do
  items ← ok_or (as_array value) (fault.Kind (field_at level name))
  kinds ← check (list_all (is_element name) (elements items)) (fault.Kind (field_at level name))
  Ok (elements items)

-- a member that is a list of as many elements as it takes, all of their kind
unfoldable pub list_in : Data → Level → FieldName → Result (List Data) DescFault
list_in holder level name = do
  value ← member_of holder level name
  list ← elements_of value level name
  count ← ranged level name (length list)
  Ok list

-- each of these elements in turn, numbered from k on
unfoldable pub each : {A : Type 0} → (ℕ → Data → Result A DescFault) → ℕ → List Data → Result (List A) DescFault
each read k [] = Ok []
each read k (value ∷ values) = do
  first ← read k value
  rest ← each read (k + 1) values
  Ok (first ∷ rest)

-- the size of a BAR
unfoldable pub size_in : Level → Data → Result ℕ DescFault
size_in level value = do
  n ← whole_number (field_at level Bar) value
  ranged level Bar n

-- these sizes, where a device may have BARs of them
unfoldable pub sizes_together : Level → List ℕ → Result (List ℕ) DescFault
sizes_together level sizes = do
  together ← check (are_bar_sizes sizes) (fault.Range (field_at level Bar))
  Ok sizes

-- a number alone is the size of the only BAR
unfoldable pub only_size : Level → Data → Result (List ℕ) DescFault
only_size level value = do
  size ← size_in level value
  sizes_together level (size ∷ [])

-- a list gives the sizes of the BARs in order
unfoldable pub listed_sizes : Level → Data → Result (List ℕ) DescFault
listed_sizes level value = do
  list ← elements_of value level Bar
  few ← check (nat_le (length list) most_bars) (fault.Range (field_at level Bar))
  sizes ← each (λ k. size_in level) 0 list
  sizes_together level sizes

-- the sizes that a value gives
unfoldable pub sizes_in : Level → Data → Result (List ℕ) DescFault
sizes_in level value = if is_some (as_number value) then only_size level value else listed_sizes level value

-- the sizes of a device's BARs
unfoldable pub bars_in : Data → Level → Result (List ℕ) DescFault
bars_in holder level = do
  value ← member_of holder level Bar
  sizes_in level value
