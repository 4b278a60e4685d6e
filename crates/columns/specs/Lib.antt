-- The definitions of `columns`, one module for each of src/, and one for the parts of the scan.
pub mod Column
pub mod Scan
pub mod ScanSteps
pub mod Forms
pub mod Word
pub mod Line
