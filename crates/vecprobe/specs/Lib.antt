pub mod Printed
pub mod PrintedExamples
