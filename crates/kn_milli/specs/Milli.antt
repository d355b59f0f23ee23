-- How thousandths are written.
use Rattle.std.specs.Prelude.{ℕ, ◌/◌, ◌%◌, ◌==◌, ◌++◌, List, [], codes, if◌then◌else◌}
use Rattle.std.specs.Fmt.{decimal}

-- what stands behind the whole part, of thousandths below 1,000: a point and the digits, without the zeros at the end
unfoldable pub point_text : ℕ → List ℕ
point_text n =
    if n == 0 then []
    else (if n % 100 == 0 then codes "." ++ decimal (n / 100)
    else (if n % 10 == 0 then codes "." ++ (decimal (n / 100) ++ decimal (n / 10 % 10))
    else codes "." ++ (decimal (n / 100) ++ (decimal (n / 10 % 10) ++ decimal (n % 10)))))

-- as a number with up to three digits behind the point: 70000 is 70, 1500 is 1.5, 1 is 0.001
unfoldable pub milli_text : ℕ → List ℕ
milli_text n = decimal (n / 1000) ++ point_text (n % 1000)
